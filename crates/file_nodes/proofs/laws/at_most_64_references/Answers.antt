use Rattle.file_nodes.proofs.References.{few-references}
use Rattle.file_nodes.proofs.laws.at_most_64_references.Goals as goal

pub returns : goal.returns
returns c = few-references
