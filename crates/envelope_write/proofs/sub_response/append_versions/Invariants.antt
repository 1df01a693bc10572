use Rattle.std.proofs.Common.{◌≡◌, ◌+◌, ◌++◌, drop}
use Rattle.envelope_write.specs.AnswerText.{versions_text}
use Rattle.envelope_write.proofs.sub_response.append_versions.Given as goal

abbrev pub invariant-loop-i : goal.invariant-loop-i
invariant-loop-i l = l.out.items ++ versions_text (l.i + 1) (drop l.i l.commits) ≡ l.fn.out.items ++ versions_text 1 l.commits
