use Rattle.wire_responses.proofs.ResponseStands.{failed_read}
use Rattle.wire_responses.proofs.laws.failed_request.Goals as goal

pub returns : goal.returns
returns c = failed_read
