use Rattle.file_nodes.proofs.ChunkedFile.{file-chunked}
use Rattle.file_nodes.proofs.laws.file_of_a_cut_file.Goals as goal

pub returns : goal.returns
returns c = file-chunked
