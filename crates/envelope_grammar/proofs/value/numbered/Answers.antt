use Rattle.std.proofs.Common.{◌≡◌, ◌<◌, ◌≤◌, length, get_or, sym, ap, ◌∙◌, arith}
use Rattle.envelope_grammar.specs.Grammar.{digit_of, scalar_of}
use Rattle.envelope_grammar.proofs.Values.{stops_here, goes_on, stops_high, at_end, scalar_from}
use Rattle.envelope_grammar.proofs.value.numbered.Goals as goal

pub returns-then-digit-base : goal.returns-then-digit-base
returns-then-digit-base c =
    let i = c.loop-d.d-index in
    let lt : i < length c.args.digits.now = omega arith in
    let high : c.args.base ≤ digit_of (get_or c.args.digits.now i 0) = omega (arith, c.digit_of-digit.ensures) in
    sym (stops_here c.args.base c.loop-d.high i c.args.digits.now lt high) ∙ c.loop-d.invariant.so_far

pub returns-then-high-gt1114111 : goal.returns-then-high-gt1114111
returns-then-high-gt1114111 c =
    let i = c.loop-d.d-index in
    let lt : i < length c.args.digits.now = omega arith in
    let same : c.digit_of-digit.result ≡ digit_of (get_or c.args.digits.now i 0) = c.digit_of-digit.ensures in
    let low : digit_of (get_or c.args.digits.now i 0) < c.args.base = omega (arith, same) in
    sym (stops_high c.args.base c.loop-d.high i c.args.digits.now c.requires.low lt low (omega (arith, same))) ∙ c.loop-d.invariant.so_far

pub loop-d-preserved : goal.loop-d-preserved
loop-d-preserved c =
    let i = c.loop-d.d-index in
    let lt : i < length c.args.digits.now = omega arith in
    let same : c.digit_of-digit.result ≡ digit_of (get_or c.args.digits.now i 0) = c.digit_of-digit.ensures in
    let low : digit_of (get_or c.args.digits.now i 0) < c.args.base = omega (arith, same) in
    record {
      low = omega arith;
      so_far = rw same (sym (ap scalar_of (goes_on c.args.base c.loop-d.high i c.args.digits.now lt low)) ∙ c.loop-d.invariant.so_far);
    }

pub returns : goal.returns
returns c =
    scalar_from c.from_u32.result c.loop-d.high c.from_u32.ensures.value c.from_u32.ensures.cases
    ∙ sym (ap scalar_of (at_end c.args.base c.loop-d.high c.loop-d.d-index c.args.digits.now (omega arith)))
    ∙ c.loop-d.invariant.so_far
