use Rattle.std.proofs.Common.{◌≡◌, drop, ap, arith}
use Rattle.std.proofs.lemmas.Bool.{eqb-true}
use Rattle.std.proofs.lemmas.List.{drop_all}
use Rattle.envelope_read.specs.Callable.{subs_of}
use Rattle.envelope_write.proofs.Appending.{subs_of-more}
use Rattle.answer_tests.proofs.test_answers.has_one_each.Goals as goal

pub loop-ask-preserved : goal.loop-ask-preserved
loop-ask-preserved c =
    let more = subs_of-more c.args.asks.now c.loop-ask.ask-index c.ask-item.result (omega arith) c.ask-item.is in
    omega (arith, more, c.loop-ask.invariant, c.len.ensures, c.len-left.ensures, c.if-len-left.false)

pub returns : goal.returns
returns c = λ is.
    let none = ap subs_of (drop_all c.loop-ask.ask-index c.args.asks.now (omega arith)) in
    let left = eqb-true c.loop-ask.left 0 is in
    omega (arith, none, left, c.loop-ask.invariant)
