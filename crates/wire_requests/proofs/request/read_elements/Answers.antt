use Rattle.std.proofs.Common.{arith}
use Rattle.wire_requests.proofs.ReaderAnswers.{elements_are, no_elements}
use Rattle.wire_requests.proofs.request.read_elements.Goals as goal

pub returns-in-Ok : goal.returns-in-Ok
returns-in-Ok c = elements_are c.args.bytes.now (λ i. omega (arith, c.type_inv.bytes i)) c.args.tree.now c.in-Ok.elements c.in-Ok.ensures.answer

pub returns-in-Err : goal.returns-in-Err
returns-in-Err c = rw c.wire_fault.ensures (no_elements c.args.bytes.now (λ i. omega (arith, c.type_inv.bytes i)) c.args.tree.now c.in-Err.fault c.in-Err.ensures.answer)
