use Rattle.wire_requests.proofs.OneAnswer.{all_bytes, one_request}
use Rattle.wire_requests.proofs.laws.one_request.Goals as goal

pub returns : goal.returns
returns c = λ bytes x y small p q. one_request bytes (all_bytes bytes small) x y p q
