use Rattle.doc_model.proofs.NamedOnce.{object-of-the-file}
use Rattle.doc_model.proofs.laws.an_object_is_of_the_file.Goals as goal

pub returns : goal.returns
returns c = object-of-the-file
