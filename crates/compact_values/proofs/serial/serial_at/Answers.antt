use Rattle.std.proofs.lemmas.Result.{err_from_is_err_and}
use Rattle.std.proofs.Common.{◌≡◌, ◌∷◌, ◌∙◌, ℕ, drop, ap}
use Rattle.compact_values.proofs.IdCode.{serial_fault}
use Rattle.compact_values.proofs.ReadingSteps.{starts}
use Rattle.compact_values.proofs.serial.serial_at.Goals as goal

pub returns-in_err-guid-in-Some-eq128-clause-exact : goal.returns-in_err-guid-in-Some-eq128-clause-exact
returns-in_err-guid-in-Some-eq128-clause-exact c =
    let p = err_from_is_err_and c.from_residual.result c.from_residual.ensures.1 in
    let s = starts c.args.bytes.now c.args.at c.in-Some-eq128.field-0.now c.in-Some-eq128.ensures.value in
    let front : drop c.args.at c.args.bytes.now ≡ 128 ∷ s.0 = s.1 ∙ ap (λ (b : ℕ). b ∷ s.0) c.in-Some-eq128.field-0-test in
    rw (p.1, p.2) (serial_fault c.args.bytes.now c.args.at s.0 c.in_err-guid-in-Some-eq128.field-0.0 front c.in_err-guid-in-Some-eq128.ensures.exact)
