use Rattle.collection_run.proofs.Opened.{small_request}
use Rattle.collection_run.proofs.opening.open_request.Goals as goal

pub returns-in-Ok-clause-small : goal.returns-in-Ok-clause-small
returns-in-Ok-clause-small c = small_request c.args.bytes.now c.in-Ok.request c.in-Ok.ensures.answer
