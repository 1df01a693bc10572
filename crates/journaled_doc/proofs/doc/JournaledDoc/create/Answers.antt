use Rattle.std.proofs.Common.{sym, ap, subst, ◌∙◌}
use Rattle.doc_model.specs.rules.Sound.{Sound}
use Rattle.doc_model.proofs.KeepsSound.{empty-sound}
use Rattle.journaled_doc.proofs.doc.JournaledDoc.create.Goals as goal

pub returns-in-Ok-create-clause-sound : goal.returns-in-Ok-create-clause-sound
returns-in-Ok-create-clause-sound g c = subst Sound (sym (ap g.C.Core.doc c.opened.ensures.core_is ∙ c.requires.document)) (empty-sound (g.C.Core.doc c.args.core).guid)
