use Rattle.wire_responses.proofs.ResponseStands.{read_as}
use Rattle.wire_responses.proofs.laws.written_response.Goals as goal

pub returns : goal.returns
returns c = read_as
