use Rattle.file_nodes.proofs.LengthLaws.{length-of-the-file}
use Rattle.file_nodes.proofs.laws.the_length_is_that_of_the_file.Goals as goal

pub returns : goal.returns
returns c = length-of-the-file
