use Rattle.doc_model.proofs.FitsTried.{fits-what-was-tried}
use Rattle.doc_model.proofs.history_laws.what_was_tried_fits.Goals as goal

pub returns : goal.returns
returns c = fits-what-was-tried
