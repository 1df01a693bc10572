-- Of items that all differ none is left out.
use Rattle.std.proofs.Common.{◌≡◌, sym, ◌∙◌, ap, Bool, false, cond, List, [], ◌∷◌, ◌++◌, map, fold, append_assoc}
use Rattle.std.proofs.lemmas.List.{append-nil}
use Rattle.std.specs.List.{AllByRecursion as Each, IsDistinct}
use Rattle.compact_values.specs.IdPlaces.{with_new}
use Rattle.doc_model.specs.rules.Finding.{firsts}
use Rattle.doc_model.proofs.EachItem.{each-append, each-as, each-both, each-map, each-none}

module _ {K X : Type 0} (same : K → K → Bool) (flips : (a b : K) → same a b ≡ same b a) (key : X → K) where
  abbrev alike : X → X → Bool
  alike a b = same (key a) (key b)

  -- like none of those that are kept
  abbrev Joins : List X → X → Type 0
  Joins kept x = Each (λ k. alike x k ≡ false) kept

  all-kept : (kept xs : List X) → Each (Joins kept) xs → IsDistinct same (map key xs) → fold (with_new alike) kept xs ≡ kept ++ xs
  unfolding IsDistinct
  all-kept kept [] h d = sym (append-nil kept)
  all-kept kept (x ∷ xs) h d =
      let others : Each (λ y. same (key x) (key y) ≡ false) xs = each-map (λ k. same (key x) k ≡ false) key xs d.0 in
      let joins : Each (Joins (kept ++ x ∷ [])) xs
      = each-as (λ y. Joins kept y × (same (key x) (key y) ≡ false)) (Joins (kept ++ x ∷ [])) xs
      (λ y p. each-append (λ k. alike y k ≡ false) kept (x ∷ []) p.0 (flips (key y) (key x) ∙ p.1, tt))
      (each-both (Joins kept) (λ y. same (key x) (key y) ≡ false) xs h.1 others) in
      ap (λ (b : Bool). fold (with_new alike) (cond b kept (kept ++ x ∷ [])) xs) (each-none (alike x) kept h.0)
      ∙ all-kept (kept ++ x ∷ []) xs joins d.1
      ∙ append_assoc kept (x ∷ []) xs

  joins-none : (xs : List X) → Each (Joins []) xs
  joins-none [] = tt
  joins-none (x ∷ xs) = (tt, joins-none xs)

  pub firsts-distinct : (xs : List X) → IsDistinct same (map key xs) → firsts alike xs ≡ xs
  firsts-distinct xs d = all-kept [] xs (joins-none xs) d
