-- A document that is opened is sound.
use Rattle.std.proofs.Common.{◌≡◌, ℕ, List, [], ◌∷◌, Option, sym, subst}
use Rattle.std.specs.Prelude.{fold}
use Rattle.doc_model.specs.rules.Apply.{apply, empty_doc}
use Rattle.doc_model.specs.rules.Sound.{Sound}
use Rattle.doc_model.specs.declared.call.Call.{Call}
use Rattle.doc_model.specs.declared.doc.Doc.{Doc}
use Rattle.doc_model.proofs.KeepsSound.{keeps-sound, empty-sound}
use Rattle.journaled_doc.specs.Replays.{AreChanges, IsReopened}
use Rattle.journaled_doc.specs.declared.doc.JournaledDoc.{JournaledDoc}

changes_sound : (d : Doc) (calls : List Call) → Sound d → AreChanges d calls → Sound (fold (λ x c. (apply x c).doc) d calls)
changes_sound d [] s a = s
changes_sound d (c ∷ cs) s a = changes_sound (apply d c).doc cs (keeps-sound d c s a.1.valid) a.3

pub reopened_sound : {C D : Type 0} (doc : C → Doc) (seen : D → Option (List ℕ)) (may_leave : D → List ℕ → Type 0) (disk : D) (j : JournaledDoc C D) → IsReopened doc seen may_leave disk j → Sound (doc j.core)
reopened_sound doc seen may_leave disk j r = subst Sound (sym r.document) (changes_sound (empty_doc j.kept.journal.guid) r.calls (empty-sound j.kept.journal.guid) r.changes)
