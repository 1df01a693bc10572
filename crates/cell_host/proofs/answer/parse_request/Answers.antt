use Rattle.wire_requests.proofs.OneAnswer.{no_request}
use Rattle.cell_host.proofs.answer.parse_request.Goals as goal

-- the only answer is a fault, so there is no request
pub returns-else-is_no_memory : goal.returns-else-is_no_memory
returns-else-is_no_memory c =
    λ accepted.
    no_request c.args.input.now c.in-Err.fault c.in-Err.ensures.only (λ e. let yes = c.if-is_no_memory.ensures.1 e in absurd cc) accepted.request.0 accepted.request.1
