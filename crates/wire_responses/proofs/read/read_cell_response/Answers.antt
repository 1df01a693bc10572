use Rattle.std.proofs.Common.{arith}
use Rattle.wire_responses.proofs.read.read_cell_response.Goals as goal
use Rattle.wire_responses.proofs.OneAnswer.{one_only}

pub returns-clause-only : goal.returns-clause-only
returns-clause-only c = one_only c.args.bytes.now (λ i. omega (arith, c.type_inv.bytes i)) c.find_response.result c.find_response.ensures
