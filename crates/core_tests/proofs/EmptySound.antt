-- A copy of a document without anything is sound.
use Rattle.std.proofs.Common.{◌≡◌, ◌∙◌}
use Rattle.compact_values.specs.declared.guid.Guid.{Guid}
use Rattle.doc_model.specs.declared.doc.Doc.{Doc}
use Rattle.doc_model.specs.rules.Apply.{empty_doc}
use Rattle.doc_model.specs.rules.Sound.{Sound}
use Rattle.doc_model.proofs.KeepsSound.{empty-sound}

pub sound_copy : (copy doc : Doc) (guid : Guid) → copy ≡ doc → doc ≡ empty_doc guid → Sound copy
sound_copy copy doc guid same empty = rw (same ∙ empty) (empty-sound guid)
