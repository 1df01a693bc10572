use Rattle.std.proofs.Common.{arith}
use Rattle.std.proofs.lemmas.Result.{err_from_is_err_and}
use Rattle.compact_values.specs.Ids.{SpellsGuid}
use Rattle.compact_values.specs.IdReading.{guid_at, long_at}
use Rattle.compact_values.proofs.IdCode.{guid_code, long_at-forms}
use Rattle.compact_values.proofs.ReadingSteps.{was_found, first_fault, second_fault}
use Rattle.compact_values.proofs.serial.number_at.Goals as goal

pub returns-in_err-guid-clause-exact : goal.returns-in_err-guid-clause-exact
returns-in_err-guid-clause-exact c =
    let p = err_from_is_err_and c.from_residual.result c.from_residual.ensures.1 in
    rw (p.1, p.2) (first_fault guid_at long_at c.args.bytes.now c.args.at c.in_err-guid.field-0.0 c.in_err-guid.ensures.exact)

pub returns-in_err-value-clause-exact : goal.returns-in_err-value-clause-exact
returns-in_err-value-clause-exact c =
    let p = err_from_is_err_and c.from_residual-in_err-value.result c.from_residual-in_err-value.ensures.1 in
    let w = was_found SpellsGuid guid_at guid_code c.args.bytes.now c.args.at c.requires (λ i. omega (arith, c.type_inv.bytes i)) c.in_ok-guid.guid c.in_ok-guid.next c.in_ok-guid.ensures.exact in
    rw (p.1, p.2) (second_fault guid_at long_at c.args.bytes.now c.args.at c.in_ok-guid.guid c.in_ok-guid.next w.used w.is w.next_is c.in_err-value.field-0.0 long_at-forms c.in_err-value.ensures.exact)
