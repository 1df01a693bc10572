use Rattle.file_nodes.proofs.FewElements.{cut-file-may-be-put}
use Rattle.file_nodes.proofs.laws.a_cut_file_may_be_put.Goals as goal

pub returns : goal.returns
returns c = cut-file-may-be-put
