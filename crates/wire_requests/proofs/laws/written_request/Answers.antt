use Rattle.wire_requests.proofs.RequestStands.{request_stands}
use Rattle.wire_requests.proofs.laws.written_request.Goals as goal

pub returns : goal.returns
returns c = λ r f. request_stands r f
