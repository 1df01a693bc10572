-- A call that commits does so once, under an index that no version has.
use Rattle.std.proofs.Common.{◌≡◌, ◌≢◌, ℕ, refl, sym, ◌∙◌, ap, Bool, true, false, not, cond, List, [], ◌∷◌, ◌++◌, Option, Some, None}
use Rattle.std.proofs.lemmas.Bool.{false≢true}
use Rattle.std.proofs.lemmas.List.Elements.{All-from_recursion}
use Rattle.std.specs.List.{AllByRecursion as Each, All}
use Rattle.compact_values.specs.declared.guid.Guid.{Guid}
use Rattle.compact_values.specs.declared.ids.ExGuid.{ExGuid}
use Rattle.compact_values.specs.SameIds.{same_id}
use Rattle.compact_values.proofs.SameIds.{same-id}
use Rattle.doc_model.specs.declared.call.Put.{Put}
use Rattle.doc_model.specs.declared.call.Sub.{Sub}
use Rattle.doc_model.specs.declared.call.Sub.TheVariants as sub
use Rattle.doc_model.specs.declared.doc.Commit.{Commit}
use Rattle.doc_model.specs.declared.doc.Doc.{Doc}
use Rattle.doc_model.specs.declared.reply.Code.{Code}
use Rattle.doc_model.specs.declared.reply.Code.TheVariants.{AlreadyLocked}
use Rattle.doc_model.specs.rules.Apply.{by_kind}
use Rattle.doc_model.specs.rules.Drawing.{can_draw}
use Rattle.doc_model.specs.rules.Editing.{edit}
use Rattle.doc_model.specs.laws.Documents.{CommitsNewIndex}
use Rattle.doc_model.specs.rules.Locking.{do_lock}
use Rattle.doc_model.specs.rules.Locks.{live, allowed}
use Rattle.doc_model.specs.rules.Puts.{put, is_part, part_reasons, commit_reasons, kept, committed, sent_to, added_by}
use Rattle.doc_model.specs.rules.Sound.{Sound}
use Rattle.doc_model.specs.rules.Effects.{Effect, first_refusal, refused, unless}
use Rattle.doc_model.specs.rules.Versions.{version, restore, restore_version, restore_reasons, restored, added_by_restore, new_index}
use Rattle.doc_model.proofs.EachItem.{each-as, none-each}
use Rattle.doc_model.proofs.Reasons.{NoneHolds, none-holds}
use Rattle.doc_model.proofs.SoundRestore.{none-committed}

-- ids that the test tells apart differ
apart : (a b : ExGuid) → same_id a b ≡ false → a ≢ b
apart a b h e = false≢true (sym h ∙ ap (λ (x : ExGuid). same_id x b) e ∙ same-id b)

-- an effect that adds a commit under a new index, where it changes the commits
record AddsOne (doc : Doc) (effect : Effect) : Type 0 where
  pub adds : effect.doc.commits ≢ doc.commits → (c : Commit) × (effect.doc.commits ≡ doc.commits ++ c ∷ []) × All (λ x. x.index ≢ c.index) doc.commits

same : (doc : Doc) (effect : Effect) → effect.doc.commits ≡ doc.commits → AddsOne doc effect
same doc effect e = record { adds = λ ne. absurd (ne e) }

one : (doc : Doc) (effect : Effect) (c : Commit) → effect.doc.commits ≡ doc.commits ++ c ∷ [] → Each (λ x. same_id x.index c.index ≡ false) doc.commits → AddsOne doc effect
one doc effect c e h = record {
  adds = λ ne. (
    c,
    e,
    All-from_recursion (λ x. x.index ≢ c.index) doc.commits
        (each-as (λ x. same_id x.index c.index ≡ false) (λ x. x.index ≢ c.index) doc.commits (λ x d. apart x.index c.index d) h),
  );
}

either : (doc : Doc) (b : Bool) (x y : Effect) → AddsOne doc x → AddsOne doc y → AddsOne doc (cond b x y)
either doc true x y p q = p
either doc false x y p q = q

unless-refused : (reasons : List (Bool × Code)) (doc : Doc) (done : Effect) → (NoneHolds reasons → AddsOne doc done) → AddsOne doc (unless (first_refusal reasons) doc done)
unless-refused reasons doc done p = at (first_refusal reasons) refl
  where
    at : (o : Option Code) → first_refusal reasons ≡ o → AddsOne doc (unless o doc done)
    at None e = p (none-holds reasons e)
    at (Some c) e = same doc (refused doc c) refl

put-adds : (doc : Doc) (m : ℕ) (user : List ℕ) (p : Put) → AddsOne doc (put doc m user p)
put-adds doc m user p =
    let es = sent_to doc p in
    either doc (is_part p) _ _ (unless-refused (part_reasons doc m p es) doc (kept doc m p) (λ none. same doc (kept doc m p) refl))
    (unless-refused (commit_reasons doc m p es (added_by doc p)) doc (committed doc m user p)
    (λ none. one doc (committed doc m user p) (record { index = p.index; moment = m; user = user }) refl
    (none-each (λ x. same_id x.index p.index) doc.commits none.1.1.1.1.0)))

module _ (doc : Doc) (s : Sound doc) where
  version-adds : (m : ℕ) (user : List ℕ) (o : Option Commit) → AddsOne doc (restore_version doc m user o)
  version-adds m user None = same doc (restore_version doc m user None) refl
  version-adds m user (Some c) =
      unless-refused (restore_reasons doc (added_by_restore doc c)) doc (restored doc m user c)
      (λ none. one doc (restored doc m user c) (record { index = new_index doc; moment = m; user = user }) refl (none-committed doc s))

  restore-adds : (m : ℕ) (user : List ℕ) (number : ℕ) (carried : Option Guid) → AddsOne doc (restore doc m user number carried)
  restore-adds m user number carried =
      either doc (not (allowed (live doc.lock m) carried)) _ _ (same doc (refused doc AlreadyLocked) refl) (version-adds m user (version doc.commits number))

  kind-adds : (m : ℕ) (user : List ℕ) (what : Sub) → AddsOne doc (by_kind doc m user what)
  kind-adds m user sub.Access = same doc _ refl
  kind-adds m user (sub.Pull knowledge) = same doc _ refl
  kind-adds m user (sub.Put p) = put-adds doc m user p
  kind-adds m user (sub.Draw count) =
      either doc (can_draw doc count) _ _ (same doc _ refl) (same doc _ refl)
  kind-adds m user (sub.Lock step) = same doc (do_lock doc m step) refl
  kind-adds m user (sub.Editor step) = same doc (edit doc m user step) refl
  kind-adds m user sub.Versions = same doc _ refl
  kind-adds m user (sub.Restore number carried) = restore-adds m user number carried
  kind-adds m user sub.ReadFile = same doc _ refl
  kind-adds m user sub.AmIAlone = same doc _ refl
  kind-adds m user sub.WhoAmI = same doc _ refl

pub new-index : CommitsNewIndex
new-index doc call s = (kind-adds doc s call.moment call.user call.sub).adds
