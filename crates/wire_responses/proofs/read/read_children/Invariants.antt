use Rattle.std.proofs.Common.{◌≡◌, drop}
use Rattle.wire_responses.specs.ResponseReading.{children_at}
use Rattle.wire_responses.proofs.read.read_children.Given as goal

abbrev pub invariant-loop-tree : goal.invariant-loop-tree
invariant-loop-tree l = children_at l.bytes (drop l.tree-index l.trees) l.response ≡ children_at l.bytes l.trees l.fn.response
