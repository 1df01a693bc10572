use Rattle.std.proofs.Common.{◌≡◌, ◌≤◌, ◌-◌, length, drop}
use Rattle.knowledge_set.specs.Joined.{absorbed}
use Rattle.knowledge_set.proofs.joining.absorbed.Given as goal

-- what has been absorbed makes no difference to the rest
abbrev pub invariant-loop-end : goal.invariant-loop-end
invariant-loop-end l = record {
  from : l.start ≤ l.end;
  to : l.end ≤ length l.ranges;
  same : absorbed l.whole (drop l.end l.ranges) ≡ absorbed l.range (drop l.start l.ranges);
}

abbrev pub decreases-loop-end : goal.decreases-loop-end
decreases-loop-end l = length l.ranges - l.end
