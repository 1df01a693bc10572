use Rattle.std.proofs.Common.{arith}
use Rattle.wire_requests.proofs.ComputedRequests.{answer_is_computed}
use Rattle.wire_requests.proofs.OneAnswer.{one_only}
use Rattle.wire_requests.proofs.request.read_cell_request.Goals as goal

pub returns-clause-only : goal.returns-clause-only
returns-clause-only c = one_only c.args.bytes.now (λ i. omega (arith, c.type_inv.bytes i)) c.find_request.result c.find_request.ensures

pub returns-clause-computed : goal.returns-clause-computed
returns-clause-computed c = answer_is_computed c.args.bytes.now (λ i. omega (arith, c.type_inv.bytes i)) c.find_request.result c.find_request.ensures
