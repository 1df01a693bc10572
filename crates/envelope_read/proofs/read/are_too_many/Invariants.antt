use Rattle.std.proofs.Common.{◌≡◌, ltb, drop}
use Rattle.envelope_read.specs.Verdicts.{most_subs, sub_count}
use Rattle.envelope_read.proofs.read.are_too_many.Given as goal

abbrev pub invariant-loop-request : goal.invariant-loop-request
invariant-loop-request l = ltb l.left (sub_count (drop l.request-index l.requests)) ≡ ltb most_subs (sub_count l.requests)
