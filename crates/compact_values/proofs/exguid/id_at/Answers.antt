use Rattle.std.proofs.Common.{arith}
use Rattle.std.proofs.lemmas.Result.{err_from_is_err_and}
use Rattle.compact_values.specs.IdReading.{guid_at, exguid_value_at}
use Rattle.compact_values.proofs.IdRows.{SpellsValue, value_code}
use Rattle.compact_values.proofs.IdCode.{guid_at-forms}
use Rattle.compact_values.proofs.ReadingSteps.{was_found, first_fault, second_fault}
use Rattle.compact_values.proofs.exguid.id_at.Goals as goal

pub returns-in_err-value-clause-exact : goal.returns-in_err-value-clause-exact
returns-in_err-value-clause-exact c =
    let p = err_from_is_err_and c.from_residual.result c.from_residual.ensures.1 in
    rw (p.1, p.2) (first_fault exguid_value_at guid_at c.args.bytes.now c.args.at c.in_err-value.field-0.0 c.in_err-value.ensures.exact)

pub returns-in_err-guid-clause-exact : goal.returns-in_err-guid-clause-exact
returns-in_err-guid-clause-exact c =
    let p = err_from_is_err_and c.from_residual-in_err-guid.result c.from_residual-in_err-guid.ensures.1 in
    let w = was_found SpellsValue exguid_value_at value_code c.args.bytes.now c.args.at c.requires (λ i. omega (arith, c.type_inv.bytes i)) c.in_ok-value.value c.in_ok-value.next c.in_ok-value.ensures.exact in
    rw (p.1, p.2) (second_fault exguid_value_at guid_at c.args.bytes.now c.args.at c.in_ok-value.value c.in_ok-value.next w.used w.is w.next_is c.in_err-guid.field-0.0 guid_at-forms c.in_err-guid.ensures.exact)

pub returns-clause-below : goal.returns-clause-below
returns-clause-below c =
    (was_found SpellsValue exguid_value_at value_code c.args.bytes.now c.args.at c.requires (λ i. omega (arith, c.type_inv.bytes i)) c.in_ok-value.value c.in_ok-value.next c.in_ok-value.ensures.exact).spelled.range
