use Rattle.stream_objects.proofs.laws.what_follows_changes_nothing.Goals as goal
use Rattle.stream_objects.proofs.Longer.{object-longer}
use Rattle.stream_objects.proofs.Stops.{fault_longer}

pub returns-clause-tree : goal.returns-clause-tree
returns-clause-tree c input more from next t stands = record { object = object-longer input more 12 t from next stands.object; few = stands.few }

pub returns-clause-fault : goal.returns-clause-fault
returns-clause-fault c = fault_longer
