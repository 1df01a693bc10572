use Rattle.std.proofs.Common.{arith}
use Rattle.compact_values.proofs.TakeSteps.{item_taken}
use Rattle.compact_values.proofs.take.take_item.Goals as goal

pub returns-in-Ok : goal.returns-in-Ok
returns-in-Ok c = item_taken c.args.bytes.now (λ i. omega (arith, c.type_inv.bytes i)) c.in-Ok.span c.in-Ok.next c.in-Ok.ensures.exact
