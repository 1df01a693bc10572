use Rattle.doc_model.proofs.Attempts.{history-at-first, history-with-gained}
use Rattle.doc_model.proofs.history_laws.a_history_grows_to_a_history.Goals as goal

pub returns : goal.returns
returns c = record { first = history-at-first; gained = history-with-gained }
