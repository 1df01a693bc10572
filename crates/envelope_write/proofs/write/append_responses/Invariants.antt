use Rattle.std.proofs.Common.{◌≡◌, ◌++◌, drop, length}
use Rattle.envelope_read.specs.Callable.{subs_of}
use Rattle.envelope_write.specs.AnswerText.{responses_text}
use Rattle.envelope_write.proofs.write.append_responses.Given as goal

abbrev pub invariant-asks : goal.invariant-asks
invariant-asks l = record {
  whole : subs_of (drop l.i l.asks) ≡ length l.rest;
  so_far : l.out.items ++ responses_text (drop l.i l.asks) l.rest ≡ l.fn.out.items ++ responses_text l.asks l.outcomes;
}
