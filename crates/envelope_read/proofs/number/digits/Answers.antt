use Rattle.std.proofs.Common.{arith, ◌∙◌, ap, ◌+◌, ◌*◌}
use Rattle.envelope_read.proofs.Digits.{Follows, digit_more}
use Rattle.envelope_read.proofs.number.digits.Goals as goal

pub overflow_mul-number : goal.overflow_mul-number
overflow_mul-number c =
    let f : Follows c.args.value.now c.loop-digit.digit-index c.loop-digit.number = digit_more _ _ _ c.requires.digits c.requires.few (omega arith) c.loop-digit.invariant.number c.loop-digit.invariant.below in
    omega (arith, f.small)

pub overflow_add-number : goal.overflow_add-number
overflow_add-number c =
    let f : Follows c.args.value.now c.loop-digit.digit-index c.loop-digit.number = digit_more _ _ _ c.requires.digits c.requires.few (omega arith) c.loop-digit.invariant.number c.loop-digit.invariant.below in
    omega (arith, f.small, f.high, c.from.ensures)

pub loop-digit-preserved : goal.loop-digit-preserved
loop-digit-preserved c =
    let f : Follows c.args.value.now c.loop-digit.digit-index c.loop-digit.number = digit_more _ _ _ c.requires.digits c.requires.few (omega arith) c.loop-digit.invariant.number c.loop-digit.invariant.below in
    record {
      number = ap (λ n. c.loop-digit.number * 10 + n) c.from.ensures ∙ f.number;
      below = omega (arith, f.below, c.from.ensures);
    }
