-- A restore gives the file of the version, and its index names what the version's does.
use Rattle.std.proofs.Common.{◌≡◌, ℕ, refl, sym, ◌∙◌, ap, subst, Bool, true, false, not, cond, List, [], ◌∷◌, drop, Option, Some, None}
use Rattle.std.proofs.lemmas.List.{length_push}
use Rattle.compact_values.specs.declared.ids.ExGuid.{ExGuid}
use Rattle.doc_model.specs.declared.doc.Commit.{Commit}
use Rattle.doc_model.specs.declared.doc.Doc.{Doc}
use Rattle.doc_model.specs.declared.element.Element.{Element}
use Rattle.doc_model.specs.declared.reply.Code.{Code}
use Rattle.doc_model.specs.declared.reply.Code.TheVariants.{AlreadyLocked}
use Rattle.doc_model.specs.rules.Files.{file}
use Rattle.doc_model.specs.laws.Documents.{AllNamed, Restores, RestoresTheFile}
use Rattle.doc_model.specs.rules.Locks.{live, allowed}
use Rattle.doc_model.specs.rules.Reached.{names}
use Rattle.doc_model.specs.rules.Sound.{IsSoundCommit, Sound}
use Rattle.doc_model.specs.rules.Effects.{Effect, refused, unless}
use Rattle.doc_model.specs.rules.Versions.{restore_version, restore_refusal, restored, added_by_restore, index_like, new_index}
use Rattle.doc_model.proofs.Added.{file-stays, names-stay}
use Rattle.doc_model.proofs.LastCommit.{All-version, stored-push}
use Rattle.doc_model.proofs.LikeIndex.{below-like, file-like}
use Rattle.doc_model.proofs.SoundCommits.{reached-named}
use Rattle.doc_model.proofs.SoundRestore.{maps-like}

-- an effect that leads there, where it moves
record LeadsTo (P : Doc → Type 0) (effect : Effect) : Type 0 where
  pub leads : effect.moved ≡ true → P effect.doc

staying : (P : Doc → Type 0) (effect : Effect) → effect.moved ≡ false → LeadsTo P effect
staying P effect e = record { leads = λ h. cc }

moving : (P : Doc → Type 0) (effect : Effect) → P effect.doc → LeadsTo P effect
moving P effect p = record { leads = λ h. p }

either : (P : Doc → Type 0) (b : Bool) (x y : Effect) → LeadsTo P x → LeadsTo P y → LeadsTo P (cond b x y)
either P true x y p q = p
either P false x y p q = q

unless-refused : (P : Doc → Type 0) (o : Option Code) (doc : Doc) (done : Effect) → LeadsTo P done → LeadsTo P (unless o doc done)
unless-refused P None doc done p = p
unless-refused P (Some c) doc done p = staying P (refused doc c) refl

module _ (doc : Doc) (s : Sound doc) (c : Commit) (t : IsSoundCommit doc c) (moment : ℕ) (user : List ℕ) where
  abbrev after : List Element
  after = added_by_restore doc c

  abbrev new : ExGuid
  new = new_index doc

  abbrev commit : Commit
  commit = record { index = new; moment = moment; user = user }

  named : AllNamed doc.added c.index
  named = reached-named doc.added c.index t.elements t.reached

  restores : Restores doc (restored doc moment user c).doc c
  restores = record {
    one_more = length_push doc.commits commit;
    file =
        ap (λ (i : ExGuid). file after i) (stored-push doc.commits commit)
        ∙ file-like after new c.index (maps-like doc s c t)
        ∙ file-stays doc.added (index_like doc.added new c.index ∷ []) c.index named;
    below =
        ap (λ (i : ExGuid). drop 1 (names after i)) (stored-push doc.commits commit)
        ∙ below-like after new c.index (maps-like doc s c t)
        ∙ ap (drop 1) (names-stay doc.added (index_like doc.added new c.index ∷ []) c.index named);
  }

pub restores-the-file : RestoresTheFile
restores-the-file doc moment user number carried c s e =
    let t : IsSoundCommit doc c = All-version (IsSoundCommit doc) doc.commits number c s.commits e in
    let P : Doc → Type 0 = λ later. Restores doc later c in
    (either P (not (allowed (live doc.lock moment) carried)) _ _ (staying P (refused doc AlreadyLocked) refl)
    (subst (λ (o : Option Commit). LeadsTo P (restore_version doc moment user o)) (sym e)
    (unless-refused P (restore_refusal doc c) doc (restored doc moment user c) (moving P (restored doc moment user c) (restores doc s c t moment user))))).leads
