use Rattle.doc_model.proofs.OneThread.{one-thread}
use Rattle.doc_model.proofs.history_laws.the_callers_are_one_thread.Goals as goal

pub returns : goal.returns
returns c = one-thread
