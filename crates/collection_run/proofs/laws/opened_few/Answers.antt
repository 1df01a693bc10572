use Rattle.wire_requests.proofs.OneAnswer.{all_bytes}
use Rattle.collection_run.proofs.Opened.{is_few}
use Rattle.collection_run.proofs.laws.opened_few.Goals as goal

pub returns-clause-few : goal.returns-clause-few
returns-clause-few c = λ bytes content request fits e. (is_few bytes content request (all_bytes bytes fits) e).few_subs

pub returns-clause-small : goal.returns-clause-small
returns-clause-small c = λ bytes content request fits e. (is_few bytes content request (all_bytes bytes fits) e).small
