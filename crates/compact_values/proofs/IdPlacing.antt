-- The places of extended GUIDs in a list that grows at its end.
use Rattle.std.proofs.Common.{◌≡◌, nat_eq, ◌&&◌, arith, ℕ, suc, refl, sym, ◌∙◌, ap, Bool, true, false, cond, ◌||◌, List, [], ◌∷◌, ◌++◌, length, Option, Some, None, option_map, is_some}
use Rattle.std.proofs.lemmas.Bool.Decides.{nat_tests}
use Rattle.std.specs.List.{list_any}
use Rattle.std.specs.declared.cmp.Ordering.{Ordering}
use Rattle.std.specs.declared.cmp.Ordering.TheVariants.{Less, Equal, Greater}
use Rattle.std.specs.Ordering.{is_eq, nat_cmp, ordering_then}
use Rattle.std.specs.Option.{option_or}
use Rattle.compact_values.specs.declared.ids.ExGuid.{ExGuid}
use Rattle.compact_values.specs.declared.ids.ExGuid.TheVariants.{Null, Id}
use Rattle.compact_values.specs.IdPlaces.{place_of, key_of, key_order, with_new}
use Rattle.compact_values.specs.SameIds.{same_id}
use Rattle.compact_values.proofs.SameIds.{id-same, id-swap}

-- numbers are equal where neither comes first
compared : (a b : ℕ) → is_eq (nat_cmp a b) ≡ nat_eq a b
compared a b = grind (arith, nat_tests)

-- keys are equal as ids are
pub key-same : (a b : ExGuid) → is_eq (key_order (key_of a) (key_of b)) ≡ same_id a b
key-same Null Null = refl
key-same Null (Id g v) = refl
key-same (Id g v) Null = refl
key-same (Id g v) (Id h w) = both (nat_cmp g.number h.number) (nat_cmp v w) ∙ ap (λ b. b && is_eq (nat_cmp v w)) (compared g.number h.number) ∙ ap (λ b. nat_eq g.number h.number && b) (compared v w)
  where
    both : (o p : Ordering) → is_eq (ordering_then o p) ≡ (is_eq o && is_eq p)
    both Less p = refl
    both Equal p = refl
    both Greater p = refl

module _ (y q : ExGuid) where
  -- the place of q where y is at n, and is the only one left
  abbrev pub at_end : ℕ → Option ℕ
  at_end n = cond (same_id y q) (Some n) None

  further : (here : Option ℕ) (last : Bool) (n : ℕ) → option_map suc (option_or here (cond last (Some n) None)) ≡ option_or (option_map suc here) (cond last (Some (suc n)) None)
  further None true n = refl
  further None false n = refl
  further (Some k) last n = refl

  step : (b : Bool) (before after : Option ℕ) (n : ℕ) → after ≡ option_or before (at_end n)
      → cond b (Some 0) (option_map suc after) ≡ option_or (cond b (Some 0) (option_map suc before)) (at_end (suc n))
  step true before after n e = refl
  step false before after n e = ap (option_map suc) e ∙ further before (same_id y q) n

  alone : (b : Bool) (o : Option ℕ) → o ≡ None → cond b (Some 0) (option_map suc o) ≡ option_or None (cond b (Some 0) None)
  alone true o e = refl
  alone false o e = ap (option_map suc) e

  pub place-append : (xs : List ExGuid) → place_of (xs ++ y ∷ []) q ≡ option_or (place_of xs q) (at_end (length xs))
  place-append [] = alone (same_id y q) None refl
  place-append (x ∷ xs) = step (same_id x q) (place_of xs q) (place_of (xs ++ y ∷ []) q) (length xs) (place-append xs)

-- an id that is there already gets no other place
pub known-stays : (xs : List ExGuid) (y q : ExGuid) → is_some (place_of xs y) ≡ true → place_of (xs ++ y ∷ []) q ≡ place_of xs q
known-stays xs y q known = place-append y q xs ∙ by_test (same_id y q) refl
  where
    there : (o : Option ℕ) (b : Bool) (n : ℕ) → is_some o ≡ true → option_or o (cond b (Some n) None) ≡ o
    there None b n h = cc
    there (Some k) b n h = refl

    none : (o : Option ℕ) → option_or o None ≡ o
    none None = refl
    none (Some k) = refl

    by_test : (b : Bool) → same_id y q ≡ b → option_or (place_of xs q) (cond (same_id y q) (Some (length xs)) None) ≡ place_of xs q
    by_test true e = there (place_of xs q) (same_id y q) (length xs) (ap (λ i. is_some (place_of xs i)) (sym (id-same y q e)) ∙ known)
    by_test false e = ap (λ b. option_or (place_of xs q) (cond b (Some (length xs)) None)) e ∙ none (place_of xs q)

-- an id that isn't there yet stands behind the others
pub new-joins : (xs : List ExGuid) (y q : ExGuid) → place_of xs y ≡ None → place_of (xs ++ y ∷ []) q ≡ cond (same_id y q) (Some (length xs)) (place_of xs q)
new-joins xs y q new = place-append y q xs ∙ by_test (same_id y q) refl
  where
    none : (o : Option ℕ) → option_or o None ≡ o
    none None = refl
    none (Some k) = refl

    by_test : (b : Bool) → same_id y q ≡ b
        → option_or (place_of xs q) (cond (same_id y q) (Some (length xs)) None) ≡ cond (same_id y q) (Some (length xs)) (place_of xs q)
    by_test true e =
        let gone : place_of xs q ≡ None = ap (place_of xs) (sym (id-same y q e)) ∙ new in
        rw gone (rw e refl)
    by_test false e = rw e (none (place_of xs q))

-- an id has a place where it is in the list
pub place-among : (xs : List ExGuid) (id : ExGuid) → is_some (place_of xs id) ≡ list_any (same_id id) xs
place-among [] id = refl
place-among (x ∷ xs) id = by_test (same_id x id) (same_id id x) (place_of xs id) (id-swap x id) (place-among xs id)
  where
    by_test : (b c : Bool) (o : Option ℕ) → b ≡ c → is_some o ≡ list_any (same_id id) xs → is_some (cond b (Some 0) (option_map suc o)) ≡ (c || list_any (same_id id) xs)
    by_test true c o e later = rw (sym e) refl
    by_test false c None e later = rw (sym e) later
    by_test false c (Some k) e later = rw (sym e) later

-- where the id was there already, its first place is put back
pub first-kept : (xs : List ExGuid) (y q : ExGuid) (first here : ℕ) → place_of xs y ≡ Some first
    → cond (same_id y q) (Some first) (cond (same_id y q) (Some here) (place_of xs q)) ≡ place_of xs q
first-kept xs y q first here known = by_test (same_id y q) refl
  where
    by_test : (b : Bool) → same_id y q ≡ b → cond (same_id y q) (Some first) (cond (same_id y q) (Some here) (place_of xs q)) ≡ place_of xs q
    by_test true e = rw e (sym known ∙ ap (place_of xs) (id-same y q e))
    by_test false e = rw e refl

-- and so it is where it stands once more at the end
pub first-stays : (xs : List ExGuid) (y q : ExGuid) (first here : ℕ) → place_of xs y ≡ Some first
    → cond (same_id y q) (Some first) (cond (same_id y q) (Some here) (place_of xs q)) ≡ place_of (xs ++ y ∷ []) q
first-stays xs y q first here known = first-kept xs y q first here known ∙ sym (known-stays xs y q (ap is_some known))

-- what isn't in the list joins it, and what is doesn't
pub joins-new : (xs : List ExGuid) (id : ExGuid) → place_of xs id ≡ None → with_new same_id xs id ≡ xs ++ id ∷ []
joins-new xs id new = ap (λ b. cond b xs (xs ++ id ∷ [])) (sym (place-among xs id) ∙ ap is_some new)

pub joins-known : (xs : List ExGuid) (id : ExGuid) (first : ℕ) → place_of xs id ≡ Some first → with_new same_id xs id ≡ xs
joins-known xs id first known = ap (λ b. cond b xs (xs ++ id ∷ [])) (sym (place-among xs id) ∙ ap is_some known)
