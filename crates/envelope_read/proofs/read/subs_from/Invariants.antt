use Rattle.std.proofs.Common.{◌≡◌, ◌+◌, drop}
use Rattle.envelope_read.specs.Verdicts.{subs_from}
use Rattle.envelope_read.proofs.AskLoops.{prepended}
use Rattle.envelope_read.proofs.read.subs_from.Given as goal

abbrev pub invariant-loop-i : goal.invariant-loop-i
invariant-loop-i l = prepended l.asks (subs_from (l.first + l.i) (drop l.i l.subs)) ≡ subs_from l.first l.subs
