-- Of items that are alike the first one alone.
use Rattle.std.proofs.Common.{◌≡◌, refl, sym, ◌∙◌, ap, subst, Bool, true, false, cond, ◌||◌, List, [], ◌∷◌, ◌++◌, find, fold, Some}
use Rattle.std.specs.List.{AllByRecursion as Each, list_any}
use Rattle.std.proofs.lemmas.Bool.{false≢true}
use Rattle.compact_values.specs.IdPlaces.{with_new}
use Rattle.doc_model.proofs.EachItem.{each-front, each-back}

-- what is found first is found among those that differ, where the test tells alike items alike
module _ {X : Type 0} (Q : X → Type 0) (alike : X → X → Bool) (p : X → Bool) (respects : (x k : X) → alike x k ≡ true → p x ≡ true → p k ≡ true) where
  each-kept : (kept xs : List X) → Each Q (fold (with_new alike) kept xs) → Each Q kept
  each-kept kept [] h = h
  each-kept kept (x ∷ xs) h = by-new (list_any (alike x) kept) (each-kept (cond (list_any (alike x) kept) kept (kept ++ x ∷ [])) xs h)
    where
      by-new : (b : Bool) → Each Q (cond b kept (kept ++ x ∷ [])) → Each Q kept
      by-new true k = k
      by-new false k = each-front Q kept (x ∷ []) k

  any-alike : (x : X) (ks : List X) → list_any (alike x) ks ≡ true → p x ≡ true → list_any p ks ≡ true
  any-alike x [] h e = h
  any-alike x (k ∷ ks) h e = by-first (alike x k) refl h (any-alike x ks)
    where
      by-first : (b : Bool) → alike x k ≡ b → (b || list_any (alike x) ks) ≡ true → (list_any (alike x) ks ≡ true → p x ≡ true → list_any p ks ≡ true) → (p k || list_any p ks) ≡ true
      by-first true a g later = let s : p k ≡ true = respects x k a e in ap (λ b. b || list_any p ks) s
      by-first false a g later = or-right (p k) (list_any p ks) (later g e)
        where
          or-right : (a b : Bool) → b ≡ true → (a || b) ≡ true
          or-right true b h = refl
          or-right false b h = h

  none-more : (ks : List X) (x : X) → list_any p ks ≡ false → p x ≡ false → list_any p (ks ++ x ∷ []) ≡ false
  none-more [] x h e = rw e
  none-more (k ∷ ks) x h e = by-first (p k) h (λ g. none-more ks x g e)
    where
      by-first : (b : Bool) → (b || list_any p ks) ≡ false → (list_any p ks ≡ false → list_any p (ks ++ x ∷ []) ≡ false) → (b || list_any p (ks ++ x ∷ [])) ≡ false
      by-first true g later = g
      by-first false g later = later g

  pub first-kept : (kept xs : List X) (c : X) → list_any p kept ≡ false → Each Q (fold (with_new alike) kept xs) → find p xs ≡ Some c → Q c
  first-kept kept [] c none h e = cc
  first-kept kept (x ∷ xs) c none h e =
      by-test (p x) refl (list_any (alike x) kept) refl e h
      (λ n g f. first-kept kept xs c n g f) (λ n g f. first-kept (kept ++ x ∷ []) xs c n g f)
    where
      by-test : (b : Bool) → p x ≡ b → (k : Bool) → list_any (alike x) kept ≡ k → cond b (Some x) (find p xs) ≡ Some c
          → Each Q (fold (with_new alike) (cond k kept (kept ++ x ∷ [])) xs)
          → (list_any p kept ≡ false → Each Q (fold (with_new alike) kept xs) → find p xs ≡ Some c → Q c)
          → (list_any p (kept ++ x ∷ []) ≡ false → Each Q (fold (with_new alike) (kept ++ x ∷ []) xs) → find p xs ≡ Some c → Q c) → Q c
      by-test true px true k f g old new = absurd (false≢true (sym none ∙ any-alike x kept k px))
      by-test true px false k f g old new =
          let s : x ≡ c = cc in subst Q s (each-back Q kept (x ∷ []) (each-kept (kept ++ x ∷ []) xs g)).0
      by-test false px true k f g old new = old none g f
      by-test false px false k f g old new = new (none-more kept x none px) g f
