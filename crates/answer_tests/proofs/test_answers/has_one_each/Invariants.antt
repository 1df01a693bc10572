use Rattle.std.proofs.Common.{◌≡◌, ◌+◌, drop}
use Rattle.envelope_read.specs.Callable.{subs_of}
use Rattle.answer_tests.proofs.test_answers.has_one_each.Given as goal

abbrev pub invariant-loop-ask : goal.invariant-loop-ask
invariant-loop-ask l = subs_of l.asks + l.left ≡ subs_of (drop l.ask-index l.asks) + l.outcomes
