use Rattle.std.proofs.Common.{◌≡◌, ◌++◌, drop}
use Rattle.envelope_write.specs.AnswerText.{subs_text}
use Rattle.envelope_write.proofs.write.append_subs.Given as goal

abbrev pub invariant-loop-i : goal.invariant-loop-i
invariant-loop-i l = l.out.items ++ subs_text (drop l.i l.subs) (drop l.i l.outcomes) ≡ l.fn.out.items ++ subs_text l.subs l.outcomes
