-- The commits of a document stay sound: what is added later changes nothing at them, and a put commits only an index of
-- which all is there, with a file, within the limits.
use Rattle.std.proofs.Common.{◌≡◌, ℕ, refl, sym, ◌∙◌, ap, Bool, true, false, not, ◌&&◌, ◌||◌, cond, List, [], ◌∷◌, ◌++◌, map, filter, find, length, nat_lt, Option, Some, None, option_map, option_and_then, unwrap_or}
use Rattle.std.specs.Prelude.{is_some, is_none}
use Rattle.std.proofs.lemmas.Bool.{false≢true}
use Rattle.std.proofs.lemmas.List.{append-nil}
use Rattle.std.proofs.lemmas.List.Elements.{All-from_recursion, recursion_from_All, filter-append}
use Rattle.std.specs.List.{AllByRecursion as Each, IsDistinct, list_all}
use Rattle.compact_values.specs.declared.ids.ExGuid.{ExGuid}
use Rattle.compact_values.specs.SameIds.{same_id}
use Rattle.compact_values.proofs.SameIds.{id-same, same-id}
use Rattle.doc_model.specs.declared.doc.Doc.{Doc}
use Rattle.doc_model.specs.declared.doc.Commit.{Commit}
use Rattle.doc_model.specs.declared.element.Element.{Element}
use Rattle.doc_model.specs.declared.element.Name.{Name}
use Rattle.doc_model.specs.rules.Files.{file}
use Rattle.doc_model.specs.rules.Finding.{Mappings, find_element, said, as_index}
use Rattle.doc_model.specs.laws.Documents.{AllNamed, AreNew, ReachedStays}
use Rattle.doc_model.specs.rules.Limits.{most_file, most_reached_weight}
use Rattle.doc_model.specs.rules.Puts.{has_chains, is_committed, too_large}
use Rattle.doc_model.specs.rules.Reached.{absent, chains_end, is_among, names, reached, reached_from}
use Rattle.doc_model.specs.rules.Sound.{IsSoundCommit}
use Rattle.doc_model.specs.rules.Weights.{weight_of}
use Rattle.doc_model.proofs.Added.{file-stays, names-found, names-stay, same-added}
use Rattle.doc_model.proofs.Agree.{reached-same}
use Rattle.doc_model.proofs.Distinct.{distinct-push}
use Rattle.doc_model.proofs.EachItem.{each-as, none-each}
use Rattle.doc_model.proofs.SoundElements.{IsNew}
use Rattle.doc_model.proofs.Reasons.{not-false, not-less, or-neither}

-- where something is reached, all that is named is there
pub reached-named : (added : List Element) (index : ExGuid) (es : List Element) → reached added index ≡ Some es → AllNamed added index
reached-named added index es h = by-index (said as_index added index) h
  where
    by-tests : (t c : Bool) (r : List Element) → cond (t && c) (Some r) None ≡ Some es → t ≡ true
    by-tests true c r h = refl
    by-tests false c r h = cc

    by-index : (o : Option Mappings) → option_and_then (λ maps. cond (list_all (λ n. n.found) (names added index) && chains_end added maps) (Some (reached_from added index)) None) o ≡ Some es
        → list_all (λ n. n.found) (names added index) ≡ true
    by-index None h = cc
    by-index (Some maps) h = by-tests (list_all (λ n. n.found) (names added index)) (chains_end added maps) (reached_from added index) h

-- what is new is not named by an index of which all is there
pub new-not-found : (added : List Element) (e : Element) → IsNew added e → find_element added e.id ≡ None
new-not-found [] e n = refl
new-not-found (x ∷ xs) e n = at (same_id x.id e.id) refl (new-not-found xs e n.1)
  where
    at : (b : Bool) → same_id x.id e.id ≡ b → find_element xs e.id ≡ None → cond b (Some x) (find_element xs e.id) ≡ None
    at true p r = absurd (false≢true (sym n.0 ∙ ap (same_id e.id) (id-same x.id e.id p) ∙ same-id e.id))
    at false p r = r

-- so nothing of it is reached
new-not-among : (added : List Element) (e : Element) (ns : List Name) → find_element added e.id ≡ None → Each (λ n. is_some (find_element added n.id) ≡ true) ns
    → is_among (map (λ n. n.id) ns) e.id ≡ false
new-not-among added e [] new h = refl
new-not-among added e (n ∷ ns) new h = at (same_id e.id n.id) refl (new-not-among added e ns new h.1)
  where
    at : (b : Bool) → same_id e.id n.id ≡ b → is_among (map (λ n. n.id) ns) e.id ≡ false → (b || is_among (map (λ n. n.id) ns) e.id) ≡ false
    at true p r = absurd (false≢true (ap (λ o. is_some o) (sym new) ∙ ap (λ i. is_some (find_element added i)) (id-same e.id n.id p) ∙ h.0))
    at false p r = r

none-passes : {X : Type 0} (p : X → Bool) (xs : List X) → Each (λ x. p x ≡ false) xs → filter p xs ≡ []
none-passes p [] h = refl
none-passes p (x ∷ xs) h = ap (λ b. cond b (x ∷ filter p xs) (filter p xs)) h.0 ∙ none-passes p xs h.1

reached-from-stays : (added more : List Element) (index : ExGuid) → AllNamed added index → Each (λ e. find_element added e.id ≡ None) more → reached_from (added ++ more) index ≡ reached_from added index
reached-from-stays added more index h new =
    let named : Element → Bool = λ e. is_among (map (λ n. n.id) (names added index)) e.id in
    ap (λ (ns : List Name). filter (λ (e : Element). is_among (map (λ n. n.id) ns) e.id) (added ++ more)) (names-stay added more index h)
    ∙ filter-append named added more
    ∙ ap (λ (es : List Element). filter named added ++ es)
    (none-passes named more (each-as (λ e. find_element added e.id ≡ None) (λ e. named e ≡ false) more (λ e n. new-not-among added e (names added index) n (names-found added index h)) new))
    ∙ append-nil (filter named added)

pub reached-stays : ReachedStays
reached-stays added more index h new =
    reached-same added (added ++ more) index (same-added added more index h)
    (reached-from-stays added more index h (recursion_from_All (λ e. find_element added e.id ≡ None) more new))

are-new : (added more : List Element) → Each (IsNew added) more → AreNew added more
are-new added more h =
    All-from_recursion (λ e. find_element added e.id ≡ None) more
    (each-as (IsNew added) (λ e. find_element added e.id ≡ None) more (λ e n. new-not-found added e n) h)

-- a commit that is sound stays so when new elements are added
pub commit-later : (d d' : Doc) (more : List Element) → d'.added ≡ d.added ++ more → Each (IsNew d.added) more → (c : Commit) → IsSoundCommit d c → IsSoundCommit d' c
commit-later d d' more e new c s =
    let named : AllNamed d.added c.index = reached-named d.added c.index s.elements s.reached in
    record {
      elements = s.elements;
      reached = ap (λ (es : List Element). reached es c.index) e ∙ reached-stays d.added more c.index named (are-new d.added more new) ∙ s.reached;
      light = s.light;
      bytes = s.bytes;
      file = ap (λ (es : List Element). file es c.index) e ∙ file-stays d.added more c.index named ∙ s.file;
      short = s.short;
    }

-- the new commit: nothing is absent, the chains end, and there is a file
pub all-found : (added : List Element) (index : ExGuid) → is_some (absent added index) ≡ false → AllNamed added index
all-found added index h = at (names added index) h
  where
    at : (ns : List Name) → is_some (option_map (λ n. n.id) (find (λ n. not n.found) ns)) ≡ false → list_all (λ n. n.found) ns ≡ true
    at [] h = refl
    at (n ∷ ns) h = by n.found h (λ k. at ns k)
      where
        by : (b : Bool) → is_some (option_map (λ m. m.id) (cond (not b) (Some n) (find (λ m. not m.found) ns))) ≡ false
            → (is_some (option_map (λ m. m.id) (find (λ m. not m.found) ns)) ≡ false → list_all (λ m. m.found) ns ≡ true) → (b && list_all (λ m. m.found) ns) ≡ true
        by true h later = later h
        by false h later = cc

is-reached : (added : List Element) (index : ExGuid) → AllNamed added index → has_chains added index ≡ true → reached added index ≡ Some (reached_from added index)
is-reached added index named chains = by-index (said as_index added index) chains
  where
    by-index : (o : Option Mappings) → unwrap_or (option_map (chains_end added) o) false ≡ true
        → option_and_then (λ maps. cond (list_all (λ n. n.found) (names added index) && chains_end added maps) (Some (reached_from added index)) None) o ≡ Some (reached_from added index)
    by-index None h = cc
    by-index (Some maps) h =
        ap (λ t. cond (t && chains_end added maps) (Some (reached_from added index)) None) named ∙ ap (λ t. cond t (Some (reached_from added index)) None) h

pub commit-new : (d : Doc) (c : Commit) → is_some (absent d.added c.index) ≡ false → (not (has_chains d.added c.index) || is_none (file d.added c.index)) ≡ false
    → too_large d.added c.index ≡ false → IsSoundCommit d c
commit-new d c found serial small =
    let s = or-neither (not (has_chains d.added c.index)) (is_none (file d.added c.index)) serial in
    let t = or-neither (nat_lt most_file (length (unwrap_or (file d.added c.index) []))) (nat_lt most_reached_weight (weight_of (reached_from d.added c.index))) small in
    let f = the-file (file d.added c.index) s.1 in
    record {
      elements = reached_from d.added c.index;
      reached = is-reached d.added c.index (all-found d.added c.index found) (not-false (has_chains d.added c.index) s.0);
      light = not-less most_reached_weight (weight_of (reached_from d.added c.index)) t.1;
      bytes = unwrap_or (file d.added c.index) [];
      file = f;
      short = not-less most_file (length (unwrap_or (file d.added c.index) [])) t.0;
    }
  where
    the-file : (o : Option (List ℕ)) → is_none o ≡ false → o ≡ Some (unwrap_or o [])
    the-file None h = cc
    the-file (Some bytes) h = refl

pub distinct-commits : (commits : List Commit) (c : Commit) → is_committed commits c.index ≡ false → IsDistinct same_id (map (λ x. x.index) commits)
    → IsDistinct same_id (map (λ x. x.index) (commits ++ c ∷ []))
distinct-commits commits c h d = distinct-push same_id (λ x. x.index) commits c d (none-each (λ x. same_id x.index c.index) commits h)

-- what is reached is what is named
pub reached-from-named : (added : List Element) (index : ExGuid) (es : List Element) → reached added index ≡ Some es → reached added index ≡ Some (reached_from added index)
reached-from-named added index es h = by-index (said as_index added index) h
  where
    by-tests : (b : Bool) (r : List Element) → cond b (Some r) None ≡ Some es → cond b (Some r) None ≡ Some r
    by-tests true r h = refl
    by-tests false r h = cc

    by-index : (o : Option Mappings) → option_and_then (λ maps. cond (list_all (λ n. n.found) (names added index) && chains_end added maps) (Some (reached_from added index)) None) o ≡ Some es
        → option_and_then (λ maps. cond (list_all (λ n. n.found) (names added index) && chains_end added maps) (Some (reached_from added index)) None) o ≡ Some (reached_from added index)
    by-index None h = cc
    by-index (Some maps) h = by-tests (list_all (λ n. n.found) (names added index) && chains_end added maps) (reached_from added index) h
