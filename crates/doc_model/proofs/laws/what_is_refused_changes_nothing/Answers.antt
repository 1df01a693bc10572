use Rattle.doc_model.proofs.Refusals.{refused-stays}
use Rattle.doc_model.proofs.laws.what_is_refused_changes_nothing.Goals as goal

pub returns : goal.returns
returns c = refused-stays
