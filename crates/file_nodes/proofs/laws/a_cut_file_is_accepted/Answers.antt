use Rattle.file_nodes.proofs.AcceptedFile.{cut-file-is-stored}
use Rattle.file_nodes.proofs.laws.a_cut_file_is_accepted.Goals as goal

pub returns : goal.returns
returns c = cut-file-is-stored
