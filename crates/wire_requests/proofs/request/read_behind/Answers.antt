use Rattle.std.proofs.Common.{arith}
use Rattle.wire_requests.proofs.request.read_behind.Goals as goal
use Rattle.wire_requests.proofs.OneAnswer.{answer_is, whole_is}

pub returns-in-Ok : goal.returns-in-Ok
returns-in-Ok c =
    answer_is c.args.bytes.now (λ i. omega (arith, c.type_inv.bytes i)) c.requires.versions c.requires.signature c.in-Ok.tree
    (whole_is c.args.bytes.now (λ i. omega (arith, c.type_inv.bytes i)) c.in-Ok.tree c.in-Ok.next (λ lt. omega (arith, lt, c.if-next-bytes.false)) c.in-Ok.ensures.answer) c.read_form.result c.read_form.ensures
