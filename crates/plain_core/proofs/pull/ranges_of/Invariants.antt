use Rattle.std.proofs.Common.{◌≡◌, ◌++◌, drop}
use Rattle.doc_model.specs.rules.Pulls.{ranges_after, ranges_of}
use Rattle.plain_core.proofs.pull.ranges_of.Given as goal

-- what is there, and what is still to be done
abbrev pub invariant-loop-k : goal.invariant-loop-k
invariant-loop-k l = l.done ++ ranges_after l.guid l.from l.to (drop l.k-index l.rest) ≡ ranges_of l.guid l.serials
