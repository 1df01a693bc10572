use Rattle.doc_model.proofs.KeepsLock.{keeps-exclusive}
use Rattle.doc_model.proofs.lock_laws.a_live_exclusive_lock_stays.Goals as goal

pub returns : goal.returns
returns c = keeps-exclusive
