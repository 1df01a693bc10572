use Rattle.wire_responses.proofs.OneAnswer.{one_response}
use Rattle.wire_responses.proofs.laws.one_response.Goals as goal

pub returns : goal.returns
returns c = λ bytes r s fits p q. one_response bytes fits r s p q
