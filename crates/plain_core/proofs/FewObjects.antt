-- Elements that are written in few enough stream objects: those of what is kept, of what is pending and of what is sent.
use Rattle.std.proofs.Common.{◌≡◌, ℕ, ◌≤◌, refl, sym, ◌∙◌, Bool, true, false, ◌&&◌, cond, List, [], ◌∷◌, ◌++◌, filter, nat_le, Some, option_map, unwrap_or, arith}
use Rattle.std.specs.List.{All, AllByRecursion as Each, list_all}
use Rattle.std.proofs.lemmas.Bool.Decides.{nat_tests}
use Rattle.std.proofs.lemmas.List.Folds.{list_all-append}
use Rattle.std.proofs.lemmas.List.Elements.{All-weaker, recursion_from_All}
use Rattle.compact_values.specs.declared.ids.ExGuid.{ExGuid}
use Rattle.compact_values.specs.SameIds.{same_id}
use Rattle.doc_model.specs.declared.doc.Doc.{Doc}
use Rattle.doc_model.specs.declared.doc.Part.{Part}
use Rattle.doc_model.specs.declared.element.Element.{Element}
use Rattle.doc_model.specs.rules.Limits.{most_objects}
use Rattle.doc_model.specs.rules.Puts.{find_part, pending, is_kept, other_parts}
use Rattle.doc_model.specs.rules.Sound.{IsSoundElement, IsSoundPart}
use Rattle.doc_model.specs.rules.Versions.{index_like}
use Rattle.doc_model.specs.rules.Weights.{objects_written}
use Rattle.doc_model.proofs.EachItem.{all-each, each-as}
use Rattle.doc_model.proofs.SoundRestore.{few-like}
use Rattle.plain_core.specs.Weighing.{is_few, all_few, few_parts}

-- ---- lists that pass a test

pub both : (a b : Bool) → a ≡ true → b ≡ true → (a && b) ≡ true
both true b p q = q
both false b p q = p

head : (a b : Bool) → (a && b) ≡ true → (a ≡ true) × (b ≡ true)
head true b h = (refl, h)
head false b h = cc

module _ {X : Type 0} (test : X → Bool) where
  pub all-both : (xs ys : List X) → list_all test xs ≡ true → list_all test ys ≡ true → list_all test (xs ++ ys) ≡ true
  all-both xs ys p q = list_all-append test xs ys ∙ both (list_all test xs) (list_all test ys) p q

  pub all-later : (xs ys : List X) → list_all test (xs ++ ys) ≡ true → list_all test ys ≡ true
  all-later xs ys h = (head (list_all test xs) (list_all test ys) (sym (list_all-append test xs ys) ∙ h)).1

  kept_one : (keeps : Bool) (x : X) (xs : List X) → test x ≡ true → list_all test xs ≡ true → list_all test (cond keeps (x ∷ xs) xs) ≡ true
  kept_one true x xs p q = both (test x) (list_all test xs) p q
  kept_one false x xs p q = q

  pub all-kept : (keeps : X → Bool) (xs : List X) → list_all test xs ≡ true → list_all test (filter keeps xs) ≡ true
  all-kept keeps [] h = h
  all-kept keeps (x ∷ xs) h =
      let split = head (test x) (list_all test xs) h in
      kept_one (keeps x) x (filter keeps xs) split.0 (all-kept keeps xs split.1)

-- ---- elements

few : (n : ℕ) → n ≤ most_objects → nat_le n most_objects ≡ true
few n h = grind (arith, nat_tests)

each_few : (es : List Element) → Each (λ e. objects_written e ≤ most_objects) es → all_few es ≡ true
each_few [] h = refl
each_few (e ∷ es) h = both (is_few e) (all_few es) (few (objects_written e) h.0) (each_few es h.1)

pub few-written : (es : List Element) → All (λ e. objects_written e ≤ most_objects) es → all_few es ≡ true
few-written es h = each_few es (recursion_from_All (λ e. objects_written e ≤ most_objects) es h)

pub few-sound : (doc : Doc) (es : List Element) → All (IsSoundElement doc) es → all_few es ≡ true
few-sound doc es h = few-written es (All-weaker (IsSoundElement doc) (λ e. objects_written e ≤ most_objects) (λ e s. s.few_objects) es h)

each_part : (doc : Doc) (parts : List Part) → Each (IsSoundPart doc) parts → few_parts parts ≡ true
each_part doc [] h = refl
each_part doc (p ∷ parts) h = both (all_few p.elements) (few_parts parts) (few-sound doc p.elements h.0) (each_part doc parts h.1)

pub few-sound-parts : (doc : Doc) (parts : List Part) → All (IsSoundPart doc) parts → few_parts parts ≡ true
few-sound-parts doc parts h = each_part doc parts (recursion_from_All (IsSoundPart doc) parts h)

-- an index that maps what another does is written in few objects
at_most : (n : ℕ) → nat_le n most_objects ≡ true → n ≤ most_objects
at_most n h = grind (arith, nat_tests)

pub few-with-like : (added : List Element) (id index : ExGuid) → all_few added ≡ true → all_few (added ++ index_like added id index ∷ []) ≡ true
few-with-like added id index h =
    let light = few-like added id index (each-as (λ e. is_few e ≡ true) (λ e. objects_written e ≤ most_objects) added (λ e t. at_most (objects_written e) t) (all-each is_few added h)) in
    all-both is_few added (index_like added id index ∷ []) h (both (is_few (index_like added id index)) true (few (objects_written (index_like added id index)) light) refl)

-- ---- what is pending

pub few-pending : (parts : List Part) (index : ExGuid) → few_parts parts ≡ true → all_few (pending parts index) ≡ true
few-pending [] index h = refl
few-pending (p ∷ parts) index h =
    let split = head (all_few p.elements) (few_parts parts) h in
    by_test (same_id p.index index) split.0 (few-pending parts index split.1)
  where
    by_test : (b : Bool) → all_few p.elements ≡ true → all_few (pending parts index) ≡ true
        → all_few (unwrap_or (option_map (λ q. q.elements) (cond b (Some p) (find_part parts index))) []) ≡ true
    by_test true own later = own
    by_test false own later = later

pub few-others : (parts : List Part) (moment : ℕ) (index : ExGuid) → few_parts parts ≡ true → few_parts (other_parts parts moment index) ≡ true
few-others parts moment index h = all-kept (λ p. all_few p.elements) (is_kept moment index) parts h
