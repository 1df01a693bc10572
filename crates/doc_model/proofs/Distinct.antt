-- Lists whose keys differ.
use Rattle.std.proofs.Common.{◌≡◌, refl, ◌∙◌, Bool, true, false, cond, List, [], ◌∷◌, ◌++◌, map, filter, fold}
use Rattle.std.specs.List.{AllByRecursion as Each, IsDistinct, list_any}
use Rattle.compact_values.specs.IdPlaces.{with_new}
use Rattle.doc_model.specs.rules.Finding.{firsts}
use Rattle.doc_model.proofs.EachItem.{each-append, each-as, each-map, each-mapped, each-filter, none-each}

module _ {K : Type 0} (same : K → K → Bool) where
  -- this key differs from each of those
  abbrev pub Differs : List K → K → Type 0
  Differs ks k = Each (λ x. same k x ≡ false) ks

  pub distinct-append : (xs ys : List K) → IsDistinct same xs → IsDistinct same ys → Each (Differs ys) xs → IsDistinct same (xs ++ ys)
  unfolding IsDistinct
  distinct-append [] ys p q h = q
  distinct-append (x ∷ xs) ys p q h = (each-append (λ y. same x y ≡ false) xs ys p.0 h.0, distinct-append xs ys p.1 q h.1)

  pub distinct-one : (k : K) → IsDistinct same (k ∷ [])
  unfolding IsDistinct
  distinct-one k = (tt, tt)

  pub distinct-none : IsDistinct same []
  unfolding IsDistinct
  distinct-none = tt

  module _ {X : Type 0} (key : X → K) where
    -- one more item, whose key is new
    pub distinct-push : (xs : List X) (x : X) → IsDistinct same (map key xs) → Each (λ y. same (key y) (key x) ≡ false) xs → IsDistinct same (map key (xs ++ x ∷ []))
    unfolding IsDistinct
    distinct-push [] x p h = (tt, tt)
    distinct-push (y ∷ ys) x p h = (
      each-mapped (λ k. same (key y) k ≡ false) key (ys ++ x ∷ []) (each-append (λ z. same (key y) (key z) ≡ false) ys (x ∷ []) (each-map (λ k. same (key y) k ≡ false) key ys p.0) (h.0, tt)),
      distinct-push ys x p.1 h.1,
    )

    -- several more
    pub distinct-more : (xs ys : List X) → IsDistinct same (map key xs) → IsDistinct same (map key ys) → Each (λ y. Each (λ x. same (key x) (key y) ≡ false) xs) ys → IsDistinct same (map key (xs ++ ys))
    unfolding IsDistinct
    distinct-more [] ys p q h = q
    distinct-more (x ∷ xs) ys p q h = (
      each-mapped (λ k. same (key x) k ≡ false) key (xs ++ ys)
          (each-append (λ z. same (key x) (key z) ≡ false) xs ys (each-map (λ k. same (key x) k ≡ false) key xs p.0)
          (each-as (λ y. Each (λ z. same (key z) (key y) ≡ false) (x ∷ xs)) (λ y. same (key x) (key y) ≡ false) ys (λ y d. d.0) h)),
      distinct-more xs ys p.1 q
          (each-as (λ y. Each (λ z. same (key z) (key y) ≡ false) (x ∷ xs)) (λ y. Each (λ z. same (key z) (key y) ≡ false) xs) ys (λ y d. d.1) h),
    )

    pub distinct-filter : (p : X → Bool) (xs : List X) → IsDistinct same (map key xs) → IsDistinct same (map key (filter p xs))
    unfolding IsDistinct
    distinct-filter p [] d = tt
    distinct-filter p (x ∷ xs) d =
        at (p x) (each-mapped (λ k. same (key x) k ≡ false) key (filter p xs) (each-filter (λ z. same (key x) (key z) ≡ false) p xs (each-map (λ k. same (key x) k ≡ false) key xs d.0)))
        (distinct-filter p xs d.1)
      where
        at : (b : Bool) → Each (λ k. same (key x) k ≡ false) (map key (filter p xs)) → IsDistinct same (map key (filter p xs))
            → IsDistinct same (map key (cond b (x ∷ filter p xs) (filter p xs)))
        at true h r = (h, r)
        at false h r = r

    -- of items that are alike the first ones differ
    module _ (flips : (a b : K) → same a b ≡ same b a) where
      abbrev alike : X → X → Bool
      alike a b = same (key a) (key b)

      distinct-kept : (kept xs : List X) → IsDistinct same (map key kept) → IsDistinct same (map key (fold (with_new alike) kept xs))
      distinct-kept kept [] d = d
      distinct-kept kept (x ∷ xs) d = distinct-kept (with_new alike kept x) xs (at (list_any (alike x) kept) refl)
        where
          at : (b : Bool) → list_any (alike x) kept ≡ b → IsDistinct same (map key (cond b kept (kept ++ x ∷ [])))
          at true e = d
          at false e = distinct-push kept x d (each-as (λ k. alike x k ≡ false) (λ k. same (key k) (key x) ≡ false) kept (λ k h. flips (key k) (key x) ∙ h) (none-each (alike x) kept e))

      pub distinct-firsts : (xs : List X) → IsDistinct same (map key (firsts alike xs))
      distinct-firsts xs = distinct-kept [] xs distinct-none

-- the first ones are some of the items
module _ {X : Type 0} (P : X → Type 0) (alike : X → X → Bool) where
  each-fold : (kept xs : List X) → Each P kept → Each P xs → Each P (fold (with_new alike) kept xs)
  each-fold kept [] k h = k
  each-fold kept (x ∷ xs) k h = each-fold (with_new alike kept x) xs (at (list_any (alike x) kept)) h.1
    where
      at : (b : Bool) → Each P (cond b kept (kept ++ x ∷ []))
      at true = k
      at false = each-append P kept (x ∷ []) k (h.0, tt)

  pub each-firsts : (xs : List X) → Each P xs → Each P (firsts alike xs)
  each-firsts xs h = each-fold [] xs tt h
