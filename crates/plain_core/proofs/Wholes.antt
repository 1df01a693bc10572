-- The elements and versions that a plain core keeps: of each version all is there, and so it stays when elements are added.
use Rattle.std.proofs.Common.{◌≡◌, ◌≢◌, ℕ, zero, suc, ◌+◌, ◌-◌, ◌≤◌, refl, sym, ◌∙◌, ap, subst, Bool, true, false, not, ◌&&◌, ◌||◌, ◌==◌, nat_le, nat_lt, cond, List, [], ◌∷◌, ◌++◌, length, Option, Some, None, unwrap_or, arith}
use Rattle.std.specs.Prelude.{is_some, is_none, find, option_map}
use Rattle.std.proofs.lemmas.Bool.Decides.{nat_tests}
use Rattle.std.proofs.lemmas.List.Elements.{recursion_from_All}
use Rattle.std.specs.List.{AllByRecursion as Each, list_all, slice_get}
use Rattle.compact_values.specs.declared.guid.Guid.{Guid}
use Rattle.compact_values.specs.declared.ids.ExGuid.{ExGuid}
use Rattle.compact_values.specs.declared.ids.ExGuid.TheVariants.{Null, Id}
use Rattle.compact_values.specs.SameIds.{same_guid, same_id}
use Rattle.compact_values.proofs.SameIds.{guid-same, id-swap, same-guid}
use Rattle.doc_model.specs.declared.doc.Commit.{Commit}
use Rattle.doc_model.specs.declared.doc.Doc.{Doc}
use Rattle.doc_model.specs.declared.element.Element.{Element}
use Rattle.doc_model.specs.declared.element.Name.{Name}
use Rattle.doc_model.specs.rules.Files.{file}
use Rattle.doc_model.specs.rules.Finding.{find_element}
use Rattle.doc_model.specs.laws.Documents.{AllNamed}
use Rattle.doc_model.specs.rules.Limits.{most_file}
use Rattle.doc_model.specs.rules.Puts.{is_foreign}
use Rattle.doc_model.specs.rules.Reached.{absent, names}
use Rattle.doc_model.specs.rules.Sound.{IsDrawn, IsSoundCommit, IsSoundElement, Sound}
use Rattle.doc_model.specs.rules.Versions.{index_like, next_id, version}
use Rattle.doc_model.proofs.Added.{file-stays, names-stay}
use Rattle.doc_model.proofs.EachItem.{each-as, each-both}
use Rattle.doc_model.proofs.LikeIndex.{file-like, maps-like, named-like}
use Rattle.doc_model.proofs.Reasons.{and-both}
use Rattle.doc_model.proofs.SoundCommits.{all-found, new-not-found, reached-named}
use Rattle.doc_model.proofs.SoundElements.{IsOwned}
use Rattle.plain_core.specs.Wholes.{is_usable, all_usable, is_small, is_whole, all_whole}
use Rattle.plain_core.proofs.FewObjects.{both, all-both}

-- ---- what an index names, and what is absent

none-some : {X : Type 0} (o : Option X) → is_none o ≡ true → is_some o ≡ false
none-some None h = refl
none-some (Some x) h = cc

is-none : {X : Type 0} (o : Option X) → o ≡ None → is_none o ≡ true
is-none o e = ap (λ x. is_none x) e

pub absent-none : (added : List Element) (index : ExGuid) → is_whole added index ≡ true → absent added index ≡ None
absent-none added index h = at (absent added index) (and-both (is_none (absent added index)) (is_small (file added index)) h).0
  where
    at : (o : Option ExGuid) → is_none o ≡ true → o ≡ None
    at None e = refl
    at (Some x) e = cc

pub small-file : (added : List Element) (index : ExGuid) → is_whole added index ≡ true → is_small (file added index) ≡ true
small-file added index h = (and-both (is_none (absent added index)) (is_small (file added index)) h).1

all-named : (added : List Element) (index : ExGuid) → is_whole added index ≡ true → AllNamed added index
all-named added index h = all-found added index (none-some (absent added index) (and-both (is_none (absent added index)) (is_small (file added index)) h).0)

none-absent : (added : List Element) (index : ExGuid) → AllNamed added index → absent added index ≡ None
none-absent added index h = at (names added index) h
  where
    at : (ns : List Name) → list_all (λ n. n.found) ns ≡ true → option_map (λ n. n.id) (find (λ n. not n.found) ns) ≡ None
    at [] h = refl
    at (n ∷ ns) h = by n.found h (λ k. at ns k)
      where
        by : (b : Bool) → (b && list_all (λ m. m.found) ns) ≡ true → (list_all (λ m. m.found) ns ≡ true → option_map (λ m. m.id) (find (λ m. not m.found) ns) ≡ None)
            → option_map (λ m. m.id) (cond (not b) (Some n) (find (λ m. not m.found) ns)) ≡ None
        by true h later = later h
        by false h later = cc

pub whole-by : (added : List Element) (index : ExGuid) → AllNamed added index → is_small (file added index) ≡ true → is_whole added index ≡ true
whole-by added index named small = both (is_none (absent added index)) (is_small (file added index)) (is-none (absent added index) (none-absent added index named)) small

-- ---- more elements

pub whole-stays : (added more : List Element) (index : ExGuid) → is_whole added index ≡ true → is_whole (added ++ more) index ≡ true
whole-stays added more index h =
    let named : AllNamed added index = all-named added index h in
    whole-by (added ++ more) index
    (ap (λ (ns : List Name). list_all (λ n. n.found) ns) (names-stay added more index named) ∙ named)
    (ap (λ (f : Option (List ℕ)). is_small f) (file-stays added more index named) ∙ small-file added index h)

pub all-whole-stays : (added more : List Element) (commits : List Commit) → all_whole added commits ≡ true → all_whole (added ++ more) commits ≡ true
all-whole-stays added more [] h = refl
all-whole-stays added more (c ∷ commits) h =
    let split = and-both (is_whole added c.index) (all_whole added commits) h in
    both (is_whole (added ++ more) c.index) (all_whole (added ++ more) commits) (whole-stays added more c.index split.0) (all-whole-stays added more commits split.1)

pub all-whole-joined : (added more : List Element) (commits : List Commit) (c : Commit) → all_whole added commits ≡ true → is_whole (added ++ more) c.index ≡ true
    → all_whole (added ++ more) (commits ++ c ∷ []) ≡ true
all-whole-joined added more commits c h new =
    all-both (λ x. is_whole (added ++ more) x.index) commits (c ∷ []) (all-whole-stays added more commits h) (both (is_whole (added ++ more) c.index) true new refl)

-- ---- ids that may be used

usable-after : (guid : Guid) (drawn later : ℕ) (id : ExGuid) → nat_le drawn later ≡ true → not (is_foreign guid drawn id) ≡ true → not (is_foreign guid later id) ≡ true
usable-after guid drawn later Null le h = cc
usable-after guid drawn later (Id g v) le h = at (same_guid g guid) h
  where
    within : not (nat_lt drawn v) ≡ true → not (nat_lt later v) ≡ true
    within n = grind (arith, nat_tests)

    at : (b : Bool) → not (b && nat_lt drawn v) ≡ true → not (b && nat_lt later v) ≡ true
    at true n = within n
    at false n = refl

pub usable-later : (guid : Guid) (drawn later : ℕ) (es : List Element) → nat_le drawn later ≡ true → all_usable guid drawn es ≡ true → all_usable guid later es ≡ true
usable-later guid drawn later [] le h = refl
usable-later guid drawn later (e ∷ es) le h =
    let split = and-both (is_usable guid drawn e) (all_usable guid drawn es) h in
    both (is_usable guid later e) (all_usable guid later es) (usable-after guid drawn later e.id le split.0) (usable-later guid drawn later es le split.1)

-- ---- a sound document

usable-sound : (doc : Doc) (id : ExGuid) → id ≢ Null → IsDrawn doc id → not (is_foreign doc.guid doc.drawn id) ≡ true
usable-sound doc Null n d = absurd (n refl)
usable-sound doc (Id g v) n d = at (same_guid g doc.guid) refl
  where
    within : v ≤ doc.drawn → not (nat_lt doc.drawn v) ≡ true
    within le = grind (arith, nat_tests)

    at : (b : Bool) → same_guid g doc.guid ≡ b → not (b && nat_lt doc.drawn v) ≡ true
    at true e = within (d (guid-same g doc.guid e))
    at false e = refl

pub usable-owned : (doc : Doc) (es : List Element) → Each (λ e. IsOwned doc e.id) es → all_usable doc.guid doc.drawn es ≡ true
usable-owned doc [] h = refl
usable-owned doc (e ∷ es) h = both (is_usable doc.guid doc.drawn e) (all_usable doc.guid doc.drawn es) (usable-sound doc e.id h.0.1 h.0.0) (usable-owned doc es h.1)

pub sound-usable : (doc : Doc) → Sound doc → all_usable doc.guid doc.drawn doc.added ≡ true
sound-usable doc s =
    usable-owned doc doc.added
    (each-as (λ e. (e.id ≢ Null) × IsSoundElement doc e) (λ e. IsOwned doc e.id) doc.added (λ e h. (h.1.drawn, h.0))
    (each-both (λ e. e.id ≢ Null) (IsSoundElement doc) doc.added (recursion_from_All (λ e. e.id ≢ Null) doc.added s.no_null) (recursion_from_All (IsSoundElement doc) doc.added s.added)))

short : (o : Option (List ℕ)) (bytes : List ℕ) → o ≡ Some bytes → length bytes ≤ most_file → is_small o ≡ true
short None bytes e le = cc
short (Some b) bytes e le = let same : length b ≡ length bytes = cc in grind (arith, nat_tests)

pub sound-whole : (doc : Doc) → Sound doc → all_whole doc.added doc.commits ≡ true
sound-whole doc s = each doc.commits (recursion_from_All (IsSoundCommit doc) doc.commits s.commits)
  where
    each : (cs : List Commit) → Each (IsSoundCommit doc) cs → all_whole doc.added cs ≡ true
    each [] h = refl
    each (c ∷ cs) h =
        both (is_whole doc.added c.index) (all_whole doc.added cs)
        (whole-by doc.added c.index (reached-named doc.added c.index h.0.elements h.0.reached) (short (file doc.added c.index) h.0.bytes h.0.file h.0.short)) (each cs h.1)

-- ---- an index that maps what another does, under the next id

next-unused : (guid : Guid) (drawn : ℕ) (id : ExGuid) → not (is_foreign guid drawn id) ≡ true → same_id (next_id guid drawn) id ≡ false
next-unused guid drawn Null h = refl
next-unused guid drawn (Id g v) h = at (same_guid guid g) refl
  where
    later : not (nat_lt drawn v) ≡ true → (drawn + 1 == v) ≡ false
    later n = grind (arith, nat_tests)

    at : (b : Bool) → same_guid guid g ≡ b → (b && (drawn + 1 == v)) ≡ false
    at true e =
        later (subst (λ (b : Bool). not (b && nat_lt drawn v) ≡ true) (ap (λ (x : Guid). same_guid g x) (guid-same guid g e) ∙ same-guid g) h)
    at false e = refl

-- which may be used once it is drawn
pub next-usable : (guid : Guid) (drawn : ℕ) → not (is_foreign guid (drawn + 1) (next_id guid drawn)) ≡ true
next-usable guid drawn = ap (λ b. not (b && nat_lt (drawn + 1) (drawn + 1))) (same-guid guid) ∙ least (drawn + 1)
  where
    least : (n : ℕ) → not (nat_lt n n) ≡ true
    least n = grind (arith, nat_tests)

next-new : (guid : Guid) (drawn : ℕ) (es : List Element) → all_usable guid drawn es ≡ true → Each (λ x. same_id (next_id guid drawn) x.id ≡ false) es
next-new guid drawn [] h = tt
next-new guid drawn (e ∷ es) h =
    let split = and-both (is_usable guid drawn e) (all_usable guid drawn es) h in
    (next-unused guid drawn e.id split.0, next-new guid drawn es split.1)

pub like-whole : (guid : Guid) (drawn : ℕ) (added : List Element) (index : ExGuid) → all_usable guid drawn added ≡ true → is_whole added index ≡ true
    → is_whole (added ++ index_like added (next_id guid drawn) index ∷ []) (next_id guid drawn) ≡ true
like-whole guid drawn added index usable whole =
    let id = next_id guid drawn in
    let like = index_like added id index in
    let after = added ++ like ∷ [] in
    let none : find_element added id ≡ None = new-not-found added like (next-new guid drawn added usable) in
    let maps = maps-like added id index none (all-named added index whole) in
    let still : is_whole after index ≡ true = whole-stays added (like ∷ []) index whole in
    whole-by after id (named-like after id index maps (all-named after index still))
    (ap (λ (f : Option (List ℕ)). is_small f) (file-like after id index maps) ∙ small-file after index still)

-- ---- a version of this number is one of the versions

at-place : (added : List Element) (commits : List Commit) (i : ℕ) (c : Commit) → all_whole added commits ≡ true → slice_get commits i ≡ Some c → is_whole added c.index ≡ true
at-place added [] i c h e = cc
at-place added (x ∷ xs) zero c h e =
    let same : x ≡ c = some-injective e in
    ap (λ (y : Commit). is_whole added y.index) (sym same) ∙ (and-both (is_whole added x.index) (all_whole added xs) h).0
  where
    some-injective : {a b : Commit} → Some a ≡ Some b → a ≡ b
    some-injective e = cc
at-place added (x ∷ xs) (suc i) c h e = at-place added xs i c (and-both (is_whole added x.index) (all_whole added xs) h).1 e

pub version-whole : (added : List Element) (commits : List Commit) (number : ℕ) (c : Commit) → all_whole added commits ≡ true → version commits number ≡ Some c → is_whole added c.index ≡ true
version-whole added commits number c h e = at (number == 0) e
  where
    at : (b : Bool) → cond b None (slice_get commits (number - 1)) ≡ Some c → is_whole added c.index ≡ true
    at true e = cc
    at false e = at-place added commits (number - 1) c h e
