-- A step of the loop that indexes a file's objects, from the last to the first.
use Rattle.std.proofs.Common.{◌≡◌, ℕ, suc, ◌+◌, ◌<◌, Bool, true, false, List, ◌∷◌, length, drop, get_or, Option, Some, inl, inr, refl, sym, ap, ◌∙◌, add-one, drop-cons, arith}
use Rattle.std.specs.Prelude.{unwrap_or, cond, not}
use Rattle.std.specs.BTreeMap.{BTreeMap, get, is_at}
use Rattle.std.proofs.lemmas.Bool.{cases_Bool}
use Rattle.std.proofs.lemmas.Bool.Decides.{nat_tests}
use Rattle.compact_values.specs.declared.ids.ExGuid.{ExGuid}
use Rattle.compact_values.specs.declared.ids.ExGuid.TheVariants.{Null, Id}
use Rattle.compact_values.specs.SameIds.{same_id}
use Rattle.file_nodes.specs.Index.{key_of, key_cmp, place_in}
use Rattle.file_nodes.specs.Links.{place_of}
use Rattle.file_nodes.specs.StoredObjects.{StoredObject}

-- two ids have the same key where they are the same
same_key : (a b : ExGuid) → is_at (key_cmp (key_of a)) (key_of b) ≡ same_id a b
same_key Null Null = refl
same_key Null (Id g v) = grind (arith, nat_tests)
same_key (Id g v) Null = grind (arith, nat_tests)
same_key (Id g v) (Id h w) = grind (arith, nat_tests)

-- the object at a place, and those behind it
place_here : (objects : List StoredObject) (i : ℕ) (d : StoredObject) (id : ExGuid) → i < length objects → same_id (get_or objects i d).id id ≡ true → i + place_of (drop i objects) id ≡ i
place_here objects i d id lt e =
    let first : place_of (get_or objects i d ∷ drop (suc i) objects) id ≡ 0 = ap (λ (b : Bool). cond (not b) (1 + place_of (drop (suc i) objects) id) 0) e in
    let whole : place_of (drop i objects) id ≡ 0 = ap (λ (l : List StoredObject). place_of l id) (drop-cons objects i d lt) ∙ first in
    omega (arith, whole)

place_behind : (objects : List StoredObject) (i : ℕ) (d : StoredObject) (id : ExGuid) → i < length objects → same_id (get_or objects i d).id id ≡ false
    → i + place_of (drop i objects) id ≡ i + 1 + place_of (drop (i + 1) objects) id
place_behind objects i d id lt e =
    let rest = place_of (drop (suc i) objects) id in
    let later : place_of (get_or objects i d ∷ drop (suc i) objects) id ≡ 1 + rest = ap (λ (b : Bool). cond (not b) (1 + rest) 0) e in
    let whole : place_of (drop i objects) id ≡ 1 + rest = ap (λ (l : List StoredObject). place_of l id) (drop-cons objects i d lt) ∙ later in
    let same : place_of (drop (i + 1) objects) id ≡ rest = ap (λ (n : ℕ). place_of (drop n objects) id) (add-one i) in
    omega (arith, whole, same)

pub index_step : (objects : List StoredObject) (i : ℕ) (d : StoredObject) (before after : BTreeMap (ℕ × ℕ) ℕ) → i < length objects
    → ((q : ℕ × ℕ) → get key_cmp after q ≡ cond (is_at (key_cmp (key_of (get_or objects i d).id)) q) (Some i) (get key_cmp before q))
    → ((id : ExGuid) → place_in before (length objects) id ≡ i + 1 + place_of (drop (i + 1) objects) id)
    → (id : ExGuid) → place_in after (length objects) id ≡ i + place_of (drop i objects) id
index_step objects i d before after lt h earlier id =
    let o = get_or objects i d in
    let now : get key_cmp after (key_of id) ≡ cond (same_id o.id id) (Some i) (get key_cmp before (key_of id)) =
    h (key_of id) ∙ ap (λ (b : Bool). cond b (Some i) (get key_cmp before (key_of id))) (same_key o.id id) in
    elim (cases_Bool (same_id o.id id)) [
      | inl y ↦
          ap (λ (p : Option ℕ). unwrap_or p (length objects)) (now ∙ ap (λ (b : Bool). cond b (Some i) (get key_cmp before (key_of id))) y) ∙ sym (place_here objects i d id lt y)
      | inr n ↦
          ap (λ (p : Option ℕ). unwrap_or p (length objects)) (now ∙ ap (λ (b : Bool). cond b (Some i) (get key_cmp before (key_of id))) n)
          ∙ earlier id ∙ sym (place_behind objects i d id lt n)
    ]
