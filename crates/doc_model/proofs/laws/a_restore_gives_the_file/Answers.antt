use Rattle.doc_model.proofs.Restoring.{restores-the-file}
use Rattle.doc_model.proofs.laws.a_restore_gives_the_file.Goals as goal

pub returns : goal.returns
returns c = restores-the-file
