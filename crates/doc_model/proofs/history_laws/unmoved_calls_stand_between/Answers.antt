use Rattle.doc_model.proofs.Replays.{unmoved-between}
use Rattle.doc_model.proofs.history_laws.unmoved_calls_stand_between.Goals as goal

pub returns : goal.returns
returns c = unmoved-between
