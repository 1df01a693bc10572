use Rattle.std.proofs.Common.{◌≡◌, drop}
use Rattle.wire_requests.specs.WalkReading.{first_of, first_by}
use Rattle.wire_requests.proofs.walk.first_among.Given as goal

abbrev pub invariant-loop-tree : goal.invariant-loop-tree
invariant-loop-tree l = first_by (first_of l.levels l.kind) (drop l.tree-index l.trees) ≡ first_by (first_of l.levels l.kind) l.trees
