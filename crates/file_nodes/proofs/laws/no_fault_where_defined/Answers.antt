use Rattle.file_nodes.proofs.WalkLaws.{root_is}
use Rattle.file_nodes.proofs.laws.no_fault_where_defined.Goals as goal

pub returns : goal.returns
returns c = root_is
