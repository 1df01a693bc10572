use Rattle.doc_model.proofs.Attempts.{tried-nothing, tried-later, tried-with-next}
use Rattle.doc_model.proofs.history_laws.attempts_stand_as_the_history_grows.Goals as goal

pub returns : goal.returns
returns c = record { nothing = tried-nothing; later = tried-later; next = tried-with-next }
