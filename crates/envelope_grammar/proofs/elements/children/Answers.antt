use Rattle.std.proofs.Common.{arith}
use Rattle.std.proofs.lemmas.Result.{err_from_is_err_and}
use Rattle.envelope_grammar.specs.Reading.{element_step}
use Rattle.envelope_grammar.proofs.Loops.{reading_more, reading_ends, reading_fails, reading_never_ends}
use Rattle.envelope_grammar.proofs.elements.children.Goals as goal

pub returns-in_err-step : goal.returns-in_err-step
returns-in_err-step g c =
    let p = err_from_is_err_and c.from_residual.result c.from_residual.ensures.1 in
    let l = c.reading in
    rw (p.1, p.2) (reading_fails (element_step g.C.Child.reads) c.args.bytes.now l.counter l.items l.rest.now l.invariant c.in_err-step.field-0.0 (omega arith) c.in_err-step.ensures)

pub returns-in_default : goal.returns-in_default
returns-in_default g c =
    let l = c.reading in
    let h = rw c.in_default.is at c.in_ok-step.ensures in
    reading_ends (element_step g.C.Child.reads) c.args.bytes.now l.counter l.items l.rest.now l.invariant tt c.in_ok-step.after.now (omega arith) h

pub reading-preserved : goal.reading-preserved
reading-preserved g c =
    let l = c.reading in
    let h = rw c.in-Some.is at c.in_ok-step.ensures in
    rw c.in_ok-push.ensures.ok (reading_more (element_step g.C.Child.reads) c.args.bytes.now l.counter l.items l.rest.now l.invariant c.in-Some.item c.in_ok-step.after.now (omega arith) h)

pub returns : goal.returns
returns g c =
    let l = c.reading in
    reading_never_ends (element_step g.C.Child.reads) c.args.bytes.now l.counter l.items l.rest.now l.invariant (omega arith)
