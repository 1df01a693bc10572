use Rattle.stream_objects.proofs.laws.computed_trees.Goals as goal
use Rattle.stream_objects.proofs.ReadTrees.{read_exactly}

pub returns : goal.returns
returns c = read_exactly
