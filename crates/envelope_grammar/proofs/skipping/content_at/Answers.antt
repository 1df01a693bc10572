use Rattle.std.proofs.Common.{◌≡◌, Some, ◌∙◌, ap, sym, arith, refl, List, ℕ, ◌++◌, ◌∷◌, []}
use Rattle.std.specs.List.{concat}
use Rattle.std.proofs.lemmas.Result.{err_from_is_err_and}
use Rattle.envelope_grammar.specs.Reading.{inside_step, all_of, content_at, skipped}
use Rattle.envelope_grammar.proofs.Loops.{reading_starts, reading_more, reading_ends, reading_fails, reading_never_ends, fails_then, concat_more}
use Rattle.envelope_grammar.proofs.skipping.content_at.Goals as goal

pub reading-init : goal.reading-init
reading-init c = ([], reading_starts (inside_step (skipped c.args.levels)) c.args.bytes.now, c.new-text.ensures)

pub returns-in_err-inside : goal.returns-in_err-inside
unfolding content_at
returns-in_err-inside c =
    let p = err_from_is_err_and c.from_residual.result c.from_residual.ensures.1 in
    let l = c.reading in
    let step = inside_step (skipped c.args.levels) in
    rw (p.1, p.2) (fails_then c.in_err-inside.field-0.0 (all_of step c.args.bytes.now) (λ x. Some (concat x.0 ++ x.1, x.2)) (reading_fails step c.args.bytes.now l.counter l.invariant.0 l.rest.now l.invariant.1 c.in_err-inside.field-0.0 (omega arith) c.in_err-inside.ensures))

pub returns-in-Last : goal.returns-in-Last
unfolding content_at
returns-in-Last c =
    let l = c.reading in
    let step = inside_step (skipped c.args.levels) in
    let h = rw c.in-Last.is at c.in_ok-inside.ensures in
    let e = reading_ends step c.args.bytes.now l.counter l.invariant.0 l.rest.now l.invariant.1 c.in-Last.last c.in_ok-inside.after.now (omega arith) h in
    let sum : concat l.invariant.0 ++ c.in-Last.last ≡ c.in_ok-joined-in-Last.field-0 = ap (λ (x : List ℕ). x ++ c.in-Last.last) (sym l.invariant.2) ∙ sym c.in_ok-joined-in-Last.ensures in
    rw (e, sum) refl

pub reading-preserved : goal.reading-preserved
reading-preserved c =
    let l = c.reading in
    let step = inside_step (skipped c.args.levels) in
    let h = rw c.in-More.is at c.in_ok-inside.ensures in (
      l.invariant.0 ++ c.in-More.more ∷ [],
      reading_more step c.args.bytes.now l.counter l.invariant.0 l.rest.now l.invariant.1 c.in-More.more c.in_ok-inside.after.now (omega arith) h,
      c.in_ok-text-in-More.ensures ∙ ap (λ (x : List ℕ). x ++ c.in-More.more) l.invariant.2 ∙ concat_more l.invariant.0 c.in-More.more,
    )

pub returns : goal.returns
unfolding content_at
returns c =
    let l = c.reading in
    let step = inside_step (skipped c.args.levels) in
    rw (reading_never_ends step c.args.bytes.now l.counter l.invariant.0 l.rest.now l.invariant.1 (omega arith)) refl
