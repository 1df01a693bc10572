use Rattle.wire_requests.proofs.ComputedRequests.{computed_exactly}
use Rattle.wire_requests.proofs.OneAnswer.{all_bytes}
use Rattle.wire_requests.proofs.laws.computed_requests.Goals as goal

pub returns : goal.returns
returns c = λ bytes r small. computed_exactly bytes r (all_bytes bytes small)
