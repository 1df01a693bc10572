-- A document in which a version is restored stays sound: the new index has an id that nobody has, and names what the
-- version's names.
use Rattle.std.proofs.Common.{◌≡◌, ◌≢◌, ℕ, ◌+◌, ◌≤◌, refl, sym, ◌∙◌, ap, Bool, true, false, ◌&&◌, ◌==◌, nat_le, nat_lt, List, [], ◌∷◌, length, Option, Some, None, option_and_then, unwrap_or, arith}
use Rattle.std.specs.Prelude.{is_some}
use Rattle.std.proofs.lemmas.Bool.{false≢true}
use Rattle.std.proofs.lemmas.Bool.Decides.{nat_tests}
use Rattle.std.proofs.lemmas.List.Elements.{All-push, All-weaker, recursion_from_All}
use Rattle.std.specs.List.{AllByRecursion as Each}
use Rattle.compact_values.specs.declared.ids.ExGuid.{ExGuid}
use Rattle.compact_values.specs.declared.ids.ExGuid.TheVariants.{Null, Id}
use Rattle.compact_values.specs.SameIds.{same_guid, same_id}
use Rattle.compact_values.proofs.SameIds.{guid-same, id-same, id-swap}
use Rattle.doc_model.specs.declared.doc.Doc.{Doc}
use Rattle.doc_model.specs.declared.doc.Commit.{Commit}
use Rattle.doc_model.specs.declared.element.Body.{Body}
use Rattle.doc_model.specs.declared.element.Body.TheVariants.{Index, Storage, Cell, Revision, Group, Blob}
use Rattle.doc_model.specs.declared.element.Element.{Element}
use Rattle.doc_model.specs.rules.Drawing.{last_number}
use Rattle.doc_model.specs.rules.Files.{file}
use Rattle.doc_model.specs.rules.Finding.{find_element, said, as_index}
use Rattle.doc_model.specs.rules.Limits.{most_added, most_added_weight, most_file, most_objects, most_reached_weight}
use Rattle.doc_model.specs.rules.Reached.{reached_from}
use Rattle.doc_model.specs.rules.Sound.{IsDrawn, IsSoundElement, IsSoundCommit, Sound}
use Rattle.doc_model.specs.rules.Versions.{added_by_restore, index_like, new_index, restored, restore_reasons}
use Rattle.doc_model.specs.rules.Weights.{objects_in, objects_written, weight_of}
use Rattle.doc_model.proofs.Added.{names-found}
use Rattle.doc_model.proofs.Distinct.{distinct-push}
use Rattle.doc_model.proofs.EachItem.{each-as, each-found}
use Rattle.doc_model.proofs.LikeIndex as like
use Rattle.doc_model.proofs.LikeIndex.{reached-like, file-like, mapping}
use Rattle.doc_model.proofs.Reasons.{NoneHolds, not-less, or-neither}
use Rattle.doc_model.proofs.SoundCommits.{commit-later, new-not-found, reached-named}
use Rattle.doc_model.proofs.SoundElements.{IsNew, element-later}
use Rattle.doc_model.proofs.SoundParts.{parts-later}

-- the document's next number is that of no id that was drawn
undrawn : (doc : Doc) (id : ExGuid) → IsDrawn doc id → same_id (new_index doc) id ≡ false
undrawn doc Null d = refl
undrawn doc (Id g v) d = at (same_guid doc.guid g) refl
  where
    later : v ≤ doc.drawn → (doc.drawn + 1 == v) ≡ false
    later le = grind (arith, nat_tests)

    at : (b : Bool) → same_guid doc.guid g ≡ b → (b && (doc.drawn + 1 == v)) ≡ false
    at true e = later (d (sym (guid-same doc.guid g e)))
    at false e = refl

-- an index that maps what one of few objects does, or nothing, is of few objects
few-mapped : (body : Body) → 1 + objects_in body ≤ most_objects → 1 + objects_in (mapping (as_index body)) ≤ most_objects
few-mapped (Index manifests cells revisions) h = h
few-mapped (Storage schema roots) h = omega arith
few-mapped (Cell current) h = omega arith
few-mapped (Revision id base roots groups) h = omega arith
few-mapped (Group objects) h = omega arith
few-mapped (Blob bytes) h = omega arith

pub few-like : (added : List Element) (id index : ExGuid) → Each (λ e. objects_written e ≤ most_objects) added → objects_written (index_like added id index) ≤ most_objects
few-like added id index h = at (find_element added index) (λ e f. each-found (λ e. objects_written e ≤ most_objects) (λ x. same_id x.id index) added e h f)
  where
    at : (o : Option Element) → ((e : Element) → o ≡ Some e → objects_written e ≤ most_objects) → 1 + objects_in (mapping (option_and_then (λ e. as_index e.body) o)) ≤ most_objects
    at None h = omega arith
    at (Some e) h = few-mapped e.body (h e refl)

module _ (doc : Doc) (s : Sound doc) where
  abbrev new : ExGuid
  new = new_index doc

  each-sound : Each (IsSoundElement doc) doc.added
  each-sound = recursion_from_All (IsSoundElement doc) doc.added s.added

  each-few : Each (λ e. objects_written e ≤ most_objects) doc.added
  each-few = each-as (IsSoundElement doc) (λ e. objects_written e ≤ most_objects) doc.added (λ e t. t.few_objects) each-sound

  -- the new id is that of no element and of no version
  no-element : Each (λ x. same_id new x.id ≡ false) doc.added
  no-element = each-as (IsSoundElement doc) (λ x. same_id new x.id ≡ false) doc.added (λ x t. undrawn doc x.id t.drawn) each-sound

  none-new : find_element doc.added new ≡ None
  none-new = new-not-found doc.added (record { id = new; body = Blob [] }) no-element

  not-committed : (x : Commit) → IsSoundCommit doc x → same_id x.index new ≡ false
  not-committed x t = at (same_id x.index new) refl
    where
      there : is_some (find_element doc.added x.index) ≡ true
      there = (names-found doc.added x.index (reached-named doc.added x.index t.elements t.reached)).0

      at : (b : Bool) → same_id x.index new ≡ b → b ≡ false
      at true e = absurd (false≢true (ap (λ o. is_some o) (sym none-new) ∙ ap (λ i. is_some (find_element doc.added i)) (sym (id-same x.index new e)) ∙ there))
      at false e = refl

  pub none-committed : Each (λ x. same_id x.index new ≡ false) doc.commits
  none-committed =
      each-as (IsSoundCommit doc) (λ x. same_id x.index new ≡ false) doc.commits not-committed (recursion_from_All (IsSoundCommit doc) doc.commits s.commits)

  module _ (c : Commit) (t : IsSoundCommit doc c) where
    abbrev element : Element
    element = index_like doc.added new c.index

    abbrev after : List Element
    after = added_by_restore doc c

    is-new : Each (IsNew doc.added) (element ∷ [])
    is-new = (no-element, tt)

    few-objects : objects_written element ≤ most_objects
    few-objects = few-like doc.added new c.index each-few

    -- the new index maps what the version's does
    pub maps-like : said as_index after new ≡ said as_index after c.index
    maps-like = like.maps-like doc.added new c.index none-new (reached-named doc.added c.index t.elements t.reached)

    module _ (moment : ℕ) (user : List ℕ) (none : NoneHolds (restore_reasons doc after)) where
      abbrev later : Doc
      later = (restored doc moment user c).doc

      abbrev commit : Commit
      commit = record { index = new; moment = moment; user = user }

      -- the version is still sound, and so is the new one
      still : IsSoundCommit later c
      still = commit-later doc later (element ∷ []) refl is-new c t

      small : (nat_lt most_file (length (unwrap_or (file after new) [])) ≡ false) × (nat_lt most_reached_weight (weight_of (reached_from after new)) ≡ false)
      small = or-neither (nat_lt most_file (length (unwrap_or (file after new) []))) (nat_lt most_reached_weight (weight_of (reached_from after new))) none.1.1.0

      commit-sound : IsSoundCommit later commit
      commit-sound = record {
        elements = reached_from after new;
        reached = reached-like after new c.index maps-like still.elements still.reached;
        light = not-less most_reached_weight (weight_of (reached_from after new)) small.1;
        bytes = still.bytes;
        file = file-like after new c.index maps-like ∙ still.file;
        short = still.short;
      }

      room : (nat_lt most_added (length after) ≡ false) × (nat_lt most_added_weight (weight_of after) ≡ false)
      room = or-neither (nat_lt most_added (length after)) (nat_lt most_added_weight (weight_of after)) none.1.0

      more : nat_le last_number doc.drawn ≡ false → doc.drawn + 1 ≤ last_number
      more h = grind (arith, nat_tests)

      pub restored-sound : Sound later
      restored-sound = record {
        drawn = more none.0;
        few_added = not-less most_added (length after) room.0;
        light_added = not-less most_added_weight (weight_of after) room.1;
        no_null = All-push (λ e. e.id ≢ Null) doc.added element s.no_null (λ e. cc);
        distinct_ids = distinct-push same_id (λ e. e.id) doc.added element s.distinct_ids
            (each-as (λ x. same_id new x.id ≡ false) (λ x. same_id x.id new ≡ false) doc.added (λ x e. id-swap x.id new ∙ e) no-element);
        added = All-push (IsSoundElement later) doc.added element
            (All-weaker (IsSoundElement doc) (IsSoundElement later) (element-later doc later refl (omega arith)) doc.added s.added)
            (record { drawn = λ e. omega arith; few_objects = few-objects });
        distinct_commits = distinct-push same_id (λ x. x.index) doc.commits commit s.distinct_commits none-committed;
        commits = All-push (IsSoundCommit later) doc.commits commit
            (All-weaker (IsSoundCommit doc) (IsSoundCommit later) (commit-later doc later (element ∷ []) refl is-new) doc.commits s.commits) commit-sound;
        parts = parts-later doc later refl (omega arith) doc.parts s.parts;
        members = s.members;
        editors = s.editors;
      }
