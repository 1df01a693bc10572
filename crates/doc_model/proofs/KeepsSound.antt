-- Every call that may be made leaves a document sound.
use Rattle.std.proofs.Common.{◌≡◌, ◌≢◌, ℕ, ◌+◌, ◌≤◌, refl, sym, ◌∙◌, subst, Bool, true, false, not, ◌&&◌, cond, List, [], length, map, nat_le, nat_lt, Option, Some, None, arith}
use Rattle.std.proofs.lemmas.Bool.Decides.{nat_tests}
use Rattle.std.proofs.lemmas.List.{append-nil}
use Rattle.std.proofs.lemmas.List.Elements.{All-from_recursion, All-append, All-nil, All-push, All-weaker}
use Rattle.std.specs.List.{AllByRecursion as Each, All, IsDistinct}
use Rattle.compact_values.specs.declared.guid.Guid.{Guid}
use Rattle.compact_values.specs.declared.ids.ExGuid.TheVariants.{Null}
use Rattle.compact_values.specs.SameIds.{same_id}
use Rattle.doc_model.specs.declared.call.Put.{Put}
use Rattle.doc_model.specs.declared.call.Sub.{Sub}
use Rattle.doc_model.specs.declared.call.Sub.TheVariants as sub
use Rattle.doc_model.specs.declared.doc.Doc.{Doc}
use Rattle.doc_model.specs.declared.doc.Commit.{Commit}
use Rattle.doc_model.specs.declared.editor.Editor.{Editor}
use Rattle.doc_model.specs.declared.element.Element.{Element}
use Rattle.doc_model.specs.declared.lock.LockRecord.{LockRecord}
use Rattle.doc_model.specs.declared.reply.Code.{Code}
use Rattle.doc_model.specs.rules.Apply.{by_kind}
use Rattle.doc_model.specs.rules.Editing.{edit}
use Rattle.doc_model.specs.rules.Drawing.{draw, can_draw, last_number}
use Rattle.doc_model.specs.laws.Documents.{KeepsSound, EmptyIsSound}
use Rattle.doc_model.specs.rules.Locking.{do_lock}
use Rattle.doc_model.specs.rules.Limits.{most_added, most_added_weight, most_objects}
use Rattle.doc_model.specs.rules.Locks.{live, allowed}
use Rattle.doc_model.specs.rules.Puts.{put, is_part, part_reasons, commit_reasons, kept, committed, sent_to, added_by, fresh, other_parts, has_invalid, too_many_parts}
use Rattle.doc_model.specs.rules.Sound.{IsSoundElement, IsSoundCommit, AreSoundParts, AreSoundMembers, AreSoundEditors, Sound, IsValidSub}
use Rattle.doc_model.specs.rules.Effects.{Effect, first_refusal, unless}
use Rattle.doc_model.specs.rules.Versions.{version, restore, restore_version, restore_reasons, restored, added_by_restore}
use Rattle.doc_model.specs.rules.Weights.{objects_written, weight_of}
use Rattle.doc_model.proofs.Distinct.{distinct-none}
use Rattle.doc_model.proofs.EachItem.{each-as}
use Rattle.doc_model.proofs.LastCommit.{All-version}
use Rattle.doc_model.proofs.SoundCommits.{commit-later, commit-new, distinct-commits}
use Rattle.doc_model.proofs.SoundEditors.{editors-sound}
use Rattle.doc_model.proofs.SoundElements.{IsOwned, each-fresh, each-owned, each-sound, element-later, distinct-added, fresh-new}
use Rattle.doc_model.proofs.SoundLocks.{lock-sound}
use Rattle.doc_model.proofs.SoundRestore.{restored-sound}
use Rattle.doc_model.proofs.SoundParts.{others-sound, parts-later, sent-few, with-part}
use Rattle.doc_model.proofs.Reasons.{NoneHolds, and-both, none-holds, not-less, or-neither}

-- an effect by a test, and one that may be refused
either : (b : Bool) (x y : Effect) → (b ≡ true → Sound x.doc) → Sound y.doc → Sound (cond b x y).doc
either b x y p q = at b refl
  where
    at : (c : Bool) → b ≡ c → Sound (cond c x y).doc
    at true e = p e
    at false e = q

unless-refused : (reasons : List (Bool × Code)) (doc : Doc) (done : Effect) → Sound doc → (NoneHolds reasons → Sound done.doc) → Sound (unless (first_refusal reasons) doc done).doc
unless-refused reasons doc done s p = at (first_refusal reasons) refl
  where
    at : (o : Option Code) → first_refusal reasons ≡ o → Sound (unless o doc done).doc
    at None e = p (none-holds reasons e)
    at (Some c) e = s

-- nothing new is added
commit-same : (d d' : Doc) → d'.added ≡ d.added → (c : Commit) → IsSoundCommit d c → IsSoundCommit d' c
commit-same d d' e c s = commit-later d d' [] (e ∙ sym (append-nil d.added)) tt c s

commits-same : (d d' : Doc) → d'.added ≡ d.added → (cs : List Commit) → All (IsSoundCommit d) cs → All (IsSoundCommit d') cs
commits-same d d' e cs s = All-weaker (IsSoundCommit d) (IsSoundCommit d') (commit-same d d' e) cs s

elements-later : (d d' : Doc) → d'.guid ≡ d.guid → d.drawn ≤ d'.drawn → (es : List Element) → All (IsSoundElement d) es → All (IsSoundElement d') es
elements-later d d' g le es s = All-weaker (IsSoundElement d) (IsSoundElement d') (element-later d d' g le) es s

-- a draw
within : (drawn count most : ℕ) → (nat_le 1 count && nat_le count 100_000 && nat_le (drawn + count) most) ≡ true → drawn + count ≤ most
within drawn count most h = at (and-both (nat_le 1 count && nat_le count 100_000) (nat_le (drawn + count) most) h).1
  where
    at : nat_le (drawn + count) most ≡ true → drawn + count ≤ most
    at e = grind (arith, nat_tests)

-- a document with the same elements and versions, of which more may be drawn
pub record SameContent (d d' : Doc) : Type 0 where
  pub guid : d'.guid ≡ d.guid
  pub drawn : d.drawn ≤ d'.drawn
  pub most : d'.drawn ≤ last_number
  pub added : d'.added ≡ d.added
  pub commits : d'.commits ≡ d.commits

-- is sound with sound parts, members and editors
pub same-content : (d d' : Doc) → Sound d → SameContent d d' → AreSoundParts d d'.parts → AreSoundMembers d'.lock → AreSoundEditors d'.editors → Sound d'
same-content d d' s c parts members editors = record {
  drawn = c.most;
  few_added = subst (λ (es : List Element). length es ≤ most_added) (sym c.added) s.few_added;
  light_added = subst (λ (es : List Element). weight_of es ≤ most_added_weight) (sym c.added) s.light_added;
  no_null = subst (λ (es : List Element). All (λ e. e.id ≢ Null) es) (sym c.added) s.no_null;
  distinct_ids = subst (λ (es : List Element). IsDistinct same_id (map (λ e. e.id) es)) (sym c.added) s.distinct_ids;
  added = subst (All (IsSoundElement d')) (sym c.added) (elements-later d d' c.guid c.drawn d.added s.added);
  distinct_commits = subst (λ (cs : List Commit). IsDistinct same_id (map (λ x. x.index) cs)) (sym c.commits) s.distinct_commits;
  commits = subst (All (IsSoundCommit d')) (sym c.commits) (commits-same d d' c.added d.commits s.commits);
  parts = parts-later d d' c.guid c.drawn d'.parts parts;
  members = members;
  editors = editors;
}

module _ (doc : Doc) (s : Sound doc) where
  draw-sound : (count : ℕ) → Sound (draw doc count).doc
  draw-sound count =
      either (can_draw doc count) _ _
      (λ h. same-content doc (record doc { drawn = doc.drawn + count }) s
      (record { guid = refl; drawn = omega arith; most = within doc.drawn count last_number h; added = refl; commits = refl }) s.parts s.members s.editors)
      s

  -- another lock, and other parts
  unmoved-content : (d' : Doc) → d'.guid ≡ doc.guid → d'.drawn ≡ doc.drawn → d'.added ≡ doc.added → d'.commits ≡ doc.commits → SameContent doc d'
  unmoved-content d' g n a c = record { guid = g; drawn = omega (arith, n); most = omega (arith, n, s.drawn); added = a; commits = c }

  pub with-lock : (lock : LockRecord) → AreSoundMembers lock → Sound (record doc { lock = lock })
  with-lock lock m = same-content doc (record doc { lock = lock }) s (unmoved-content (record doc { lock = lock }) refl refl refl refl) s.parts m s.editors

  pub with-editors : (editors : List Editor) → AreSoundEditors editors → Sound (record doc { editors = editors })
  with-editors editors e = same-content doc (record doc { editors = editors }) s (unmoved-content (record doc { editors = editors }) refl refl refl refl) s.parts s.members e

  module _ (moment : ℕ) (user : List ℕ) (p : Put) (few : All (λ e. objects_written e ≤ most_objects) p.elements) where
    abbrev es : List Element
    es = sent_to doc p

    es-sound : has_invalid doc.guid doc.drawn doc.added es ≡ false → Each (IsSoundElement doc) es
    es-sound h = each-sound doc es (each-owned doc es h) (sent-few doc doc.parts p s.parts few)

    -- a part
    abbrev after-part : Doc
    after-part = (kept doc moment p).doc

    kept-sound : has_invalid doc.guid doc.drawn doc.added es ≡ false → too_many_parts (other_parts doc.parts moment p.index) es ≡ false → Sound after-part
    kept-sound valid room =
        same-content doc after-part s (unmoved-content after-part refl refl refl refl)
        (with-part doc doc.parts (record { index = p.index; elements = es; moment = moment }) moment s.parts (All-from_recursion (IsSoundElement doc) es (es-sound valid)) room)
        s.members s.editors

    -- a commit
    abbrev new : List Element
    new = fresh doc.added es

    abbrev after : Doc
    after = (committed doc moment user p).doc

    abbrev commit : Commit
    commit = record { index = p.index; moment = moment; user = user }

    committed-sound : NoneHolds (commit_reasons doc moment p es (added_by doc p)) → Sound after
    committed-sound none =
        let valid : has_invalid doc.guid doc.drawn doc.added es ≡ false = none.1.0 in
        let room = or-neither (nat_lt most_added (length (added_by doc p))) (nat_lt most_added_weight (weight_of (added_by doc p))) none.1.1.0 in
        record {
          drawn = s.drawn;
          few_added = not-less most_added (length (added_by doc p)) room.0;
          light_added = not-less most_added_weight (weight_of (added_by doc p)) room.1;
          no_null = All-append (λ e. e.id ≢ Null) doc.added new s.no_null
              (All-from_recursion (λ e. e.id ≢ Null) new (each-as (λ e. IsOwned doc e.id) (λ e. e.id ≢ Null) new (λ e o. o.1) (each-fresh (λ e. IsOwned doc e.id) doc.added es (each-owned doc es valid))));
          distinct_ids = distinct-added doc.added es s.distinct_ids;
          added = elements-later doc after refl (omega arith) (added_by doc p)
              (All-append (IsSoundElement doc) doc.added new s.added
              (All-from_recursion (IsSoundElement doc) new (each-fresh (IsSoundElement doc) doc.added es (es-sound valid))));
          distinct_commits = distinct-commits doc.commits commit none.1.1.1.1.0 s.distinct_commits;
          commits = All-push (IsSoundCommit after) doc.commits commit
              (All-weaker (IsSoundCommit doc) (IsSoundCommit after) (commit-later doc after new refl (fresh-new doc.added es)) doc.commits s.commits)
              (commit-new after commit none.1.1.1.1.1.0 none.1.1.1.1.1.1.0 none.1.1.1.1.1.1.1.0);
          parts = parts-later doc after refl (omega arith) (other_parts doc.parts moment p.index) (others-sound doc doc.parts moment p.index s.parts);
          members = s.members;
          editors = s.editors;
        }

    put-sound : Sound (put doc moment user p).doc
    put-sound =
        either (is_part p) _ _
        (λ h. unless-refused (part_reasons doc moment p es) doc (kept doc moment p) s (λ none. kept-sound none.1.0 none.1.1.0))
        (unless-refused (commit_reasons doc moment p es (added_by doc p)) doc (committed doc moment user p) s committed-sound)

  -- a restore
  version-sound : (moment : ℕ) (user : List ℕ) (o : Option Commit) → ((c : Commit) → o ≡ Some c → IsSoundCommit doc c) → Sound (restore_version doc moment user o).doc
  version-sound moment user None h = s
  version-sound moment user (Some c) h =
      unless-refused (restore_reasons doc (added_by_restore doc c)) doc (restored doc moment user c) s (λ none. restored-sound doc s c (h c refl) moment user none)

  restore-sound : (moment : ℕ) (user : List ℕ) (number : ℕ) (carried : Option Guid) → Sound (restore doc moment user number carried).doc
  restore-sound moment user number carried =
      either (not (allowed (live doc.lock moment) carried)) _ _ (λ h. s)
      (version-sound moment user (version doc.commits number) (λ c e. All-version (IsSoundCommit doc) doc.commits number c s.commits e))

  kind-sound : (moment : ℕ) (user : List ℕ) (what : Sub) → IsValidSub what → Sound (by_kind doc moment user what).doc
  kind-sound moment user sub.Access v = s
  kind-sound moment user (sub.Pull knowledge) v = s
  kind-sound moment user (sub.Put p) v = put-sound moment user p v.1
  kind-sound moment user (sub.Draw count) v = draw-sound count
  kind-sound moment user (sub.Lock step) v = with-lock (do_lock doc moment step).doc.lock (lock-sound doc.lock moment step s.members)
  kind-sound moment user (sub.Editor step) v = with-editors (edit doc moment user step).doc.editors (editors-sound doc.editors moment user step s.editors)
  kind-sound moment user sub.Versions v = s
  kind-sound moment user (sub.Restore number carried) v = restore-sound moment user number carried
  kind-sound moment user sub.ReadFile v = s
  kind-sound moment user sub.AmIAlone v = s
  kind-sound moment user sub.WhoAmI v = s

pub keeps-sound : KeepsSound
keeps-sound doc call s v = kind-sound doc s call.moment call.user call.sub v.sub

pub empty-sound : EmptyIsSound
empty-sound guid = record {
  drawn = omega arith;
  few_added = omega arith;
  light_added = omega arith;
  no_null = All-nil _;
  distinct_ids = distinct-none _;
  added = All-nil _;
  distinct_commits = distinct-none _;
  commits = All-nil _;
  parts = record { few = omega arith; light = omega arith; distinct = distinct-none _; sound = All-nil _ };
  members = tt;
  editors = record { few = omega arith; distinct = distinct-none _; few_keys = All-nil _; distinct_keys = All-nil _ };
}
