use Rattle.doc_model.proofs.KeepsSound.{keeps-sound, empty-sound}
use Rattle.doc_model.proofs.laws.every_call_keeps_sound.Goals as goal

pub returns-clause-kept : goal.returns-clause-kept
returns-clause-kept c = keeps-sound

pub returns-clause-empty : goal.returns-clause-empty
returns-clause-empty c = empty-sound
