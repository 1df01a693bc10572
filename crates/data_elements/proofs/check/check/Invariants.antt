use Rattle.std.proofs.Common.{◌≡◌, drop}
use Rattle.data_elements.specs.Checking.{check_at}
use Rattle.data_elements.proofs.check.check.Given as goal

abbrev pub invariant-loop-tree : goal.invariant-loop-tree
invariant-loop-tree l = check_at l.bytes l.kind (drop l.tree-index l.trees) ≡ check_at l.bytes l.kind l.trees
