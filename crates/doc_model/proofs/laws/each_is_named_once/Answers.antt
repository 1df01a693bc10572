use Rattle.doc_model.proofs.NamedOnce.{once-is-enough}
use Rattle.doc_model.proofs.laws.each_is_named_once.Goals as goal

pub returns : goal.returns
returns c = once-is-enough
