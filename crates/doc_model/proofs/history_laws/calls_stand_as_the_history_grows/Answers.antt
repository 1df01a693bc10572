use Rattle.doc_model.proofs.Growing.{stands-nowhere, stands-later, stands-with-next}
use Rattle.doc_model.proofs.history_laws.calls_stand_as_the_history_grows.Goals as goal

pub returns : goal.returns
returns c = record { nowhere = stands-nowhere; later = stands-later; next = stands-with-next }
