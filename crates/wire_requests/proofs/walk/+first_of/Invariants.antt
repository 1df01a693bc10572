use Rattle.std.proofs.Common.{◌≡◌, ◌-◌, drop}
use Rattle.wire_requests.specs.WalkReading.{first_of, first_by}
use Rattle.wire_requests.proofs.walk.+first_of.Given as goal

abbrev pub decreases-first_of : goal.decreases-first_of
decreases-first_of l = l.levels

abbrev pub invariant-loop-child : goal.invariant-loop-child
invariant-loop-child l = first_by (first_of (l.levels - 1) l.kind) (drop l.child-index l.child-items) ≡ first_by (first_of (l.levels - 1) l.kind) l.child-items
