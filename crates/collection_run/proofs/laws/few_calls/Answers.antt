use Rattle.collection_run.proofs.Calls.{envelope_calls}
use Rattle.collection_run.proofs.laws.few_calls.Goals as goal

pub returns : goal.returns
returns c = envelope_calls
