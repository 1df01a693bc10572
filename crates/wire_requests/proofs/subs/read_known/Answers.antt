use Rattle.std.proofs.Common.{arith}
use Rattle.wire_requests.proofs.ReaderAnswers.{known, not_known}
use Rattle.wire_requests.proofs.subs.read_known.Goals as goal

pub returns-in-Ok : goal.returns-in-Ok
returns-in-Ok c = known c.args.bytes.now (λ i. omega (arith, c.type_inv.bytes i)) c.args.tree.now c.in-Ok.knowledge c.in-Ok.ensures.answer

pub returns-in-Err : goal.returns-in-Err
returns-in-Err c = rw c.wire_fault.ensures (not_known c.args.bytes.now (λ i. omega (arith, c.type_inv.bytes i)) c.args.tree.now c.in-Err.fault c.in-Err.ensures.answer)
