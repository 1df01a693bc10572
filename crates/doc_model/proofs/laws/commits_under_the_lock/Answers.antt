use Rattle.doc_model.proofs.UnderLock.{under-lock}
use Rattle.doc_model.proofs.laws.commits_under_the_lock.Goals as goal

pub returns : goal.returns
returns c = under-lock
