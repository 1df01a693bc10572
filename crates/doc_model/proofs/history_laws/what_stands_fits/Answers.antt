use Rattle.doc_model.proofs.FitsStands.{fits-what-stands}
use Rattle.doc_model.proofs.history_laws.what_stands_fits.Goals as goal

pub returns : goal.returns
returns c = fits-what-stands
