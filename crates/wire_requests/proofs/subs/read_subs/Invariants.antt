use Rattle.std.proofs.Common.{◌≡◌, drop}
use Rattle.stream_objects.specs.Gathering.{gather}
use Rattle.wire_requests.specs.RequestReading.{child_at}
use Rattle.wire_requests.proofs.subs.read_subs.Given as goal

abbrev pub invariant-loop-tree : goal.invariant-loop-tree
invariant-loop-tree l = gather (child_at l.bytes) l.subs (drop l.tree-index l.trees) ≡ gather (child_at l.bytes) l.fn.subs l.trees
