use Rattle.doc_model.proofs.NewIndex.{new-index}
use Rattle.doc_model.proofs.laws.an_index_is_committed_once.Goals as goal

pub returns : goal.returns
returns c = new-index
