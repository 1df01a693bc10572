use Rattle.std.proofs.Common.{Some, arith, refl, ◌++◌, ◌∷◌, []}
use Rattle.std.proofs.lemmas.Result.{err_from_is_err_and}
use Rattle.envelope_grammar.specs.Reading.{inside_step, all_of, skipped}
use Rattle.envelope_grammar.proofs.Loops.{reading_more, reading_ends, reading_fails, reading_never_ends, fails_then}
use Rattle.envelope_grammar.proofs.skipping.+skipping.Goals as goal

pub past_content-returns-in_err-inside : goal.past_content-returns-in_err-inside
past_content-returns-in_err-inside t c =
    let p = err_from_is_err_and c.from_residual.result c.from_residual.ensures.1 in
    let l = c.reading in
    let step = inside_step (skipped c.args.levels) in
    rw (p.1, p.2) (fails_then c.in_err-inside.field-0.0 (all_of step c.args.bytes.now) (λ x. Some x.2) (reading_fails step c.args.bytes.now l.counter l.invariant.0 l.rest.now l.invariant.1 c.in_err-inside.field-0.0 (omega arith) c.in_err-inside.ensures))

pub past_content-returns-in-Last : goal.past_content-returns-in-Last
past_content-returns-in-Last t c =
    let l = c.reading in
    let step = inside_step (skipped c.args.levels) in
    let h = rw c.in-Last.is at c.in_ok-inside.ensures in
    rw (reading_ends step c.args.bytes.now l.counter l.invariant.0 l.rest.now l.invariant.1 c.in-Last.field-0 c.in_ok-inside.after.now (omega arith) h) refl

pub past_content-reading-preserved : goal.past_content-reading-preserved
past_content-reading-preserved t c =
    let l = c.reading in
    let step = inside_step (skipped c.args.levels) in
    let h = rw c.in_default.is at c.in_ok-inside.ensures in
    (l.invariant.0 ++ c.in_default.field-0 ∷ [], reading_more step c.args.bytes.now l.counter l.invariant.0 l.rest.now l.invariant.1 c.in_default.field-0 c.in_ok-inside.after.now (omega arith) h)

pub past_content-returns : goal.past_content-returns
past_content-returns t c =
    let l = c.reading in
    let step = inside_step (skipped c.args.levels) in
    rw (reading_never_ends step c.args.bytes.now l.counter l.invariant.0 l.rest.now l.invariant.1 (omega arith)) refl
