-- Lists in which the item with a key is replaced at its place, or else a new one comes at the end.
use Rattle.std.proofs.Common.{◌≡◌, ◌⊎◌, suc, ◌+◌, refl, sym, ap, subst, Bool, true, false, not, ◌||◌, cond, List, [], ◌∷◌, map, filter, length, inl, inr, ⊎_elim, arith}
use Rattle.std.specs.List.{AllByRecursion as Each, IsDistinct, list_any}

-- the first item that passes changed so, or else a new one at the end
abbrev pub placed : {X : Type 0} → (X → Bool) → (X → X) → X → List X → List X
placed p change new [] = new ∷ []
placed p change new (x ∷ xs) = cond (p x) (change x ∷ xs) (x ∷ placed p change new xs)

module _ {X : Type 0} (p : X → Bool) (change : X → X) (new : X) where
  abbrev with' : List X → List X
  with' = placed p change new

  -- they are as many as before, or one more than those that don't pass
  pub length-placed : (xs : List X) → (length (with' xs) ≡ length xs) ⊎ (length (with' xs) ≡ length (filter (λ x. not (p x)) xs) + 1)
  length-placed [] = inr refl
  length-placed (x ∷ xs) = at (p x) (length-placed xs)
    where
      at : (b : Bool) → (length (with' xs) ≡ length xs) ⊎ (length (with' xs) ≡ length (filter (λ y. not (p y)) xs) + 1)
          → (length (cond b (change x ∷ xs) (x ∷ with' xs)) ≡ length (x ∷ xs))
          ⊎ (length (cond b (change x ∷ xs) (x ∷ with' xs)) ≡ length (cond (not b) (x ∷ filter (λ y. not (p y)) xs) (filter (λ y. not (p y)) xs)) + 1)
      at true r = inl refl
      at false r = ⊎_elim (λ e. inl (ap (λ n. suc n) e)) (λ e. inr (omega (arith, e))) r

  pub length-there : (xs : List X) → list_any p xs ≡ true → length (with' xs) ≡ length xs
  length-there [] h = cc
  length-there (x ∷ xs) h = at (p x) h (λ g. length-there xs g)
    where
      at : (b : Bool) → (b || list_any p xs) ≡ true → (list_any p xs ≡ true → length (with' xs) ≡ length xs) → length (cond b (change x ∷ xs) (x ∷ with' xs)) ≡ length (x ∷ xs)
      at true h later = refl
      at false h later = ap (λ n. suc n) (later h)

  pub each-placed : (P : X → Type 0) → ((x : X) → P x → P (change x)) → P new → (xs : List X) → Each P xs → Each P (with' xs)
  each-placed P f n [] h = (n, tt)
  each-placed P f n (x ∷ xs) h = at (p x) (each-placed P f n xs h.1)
    where
      at : (b : Bool) → Each P (with' xs) → Each P (cond b (change x ∷ xs) (x ∷ with' xs))
      at true r = (f x h.0, h.1)
      at false r = (h.0, r)

-- their keys differ, where the item that passes has this key and keeps it
module _ {X K : Type 0} (same : K → K → Bool) (exact : (a b : K) → same a b ≡ true → a ≡ b) (key : X → K) (k : K) (change : X → X) (new : X)
    (kept : (x : X) → same (key x) k ≡ true → key (change x) ≡ key x) (own : key new ≡ k) where
  abbrev with-key : List X → List X
  with-key = placed (λ x. same (key x) k) change new

  each-key : (P : K → Type 0) (xs : List X) → Each P (map key xs) → P k → Each P (map key (with-key xs))
  each-key P [] h q = (subst P (sym own) q, tt)
  each-key P (x ∷ xs) h q = at (same (key x) k) refl (each-key P xs h.1 q)
    where
      at : (b : Bool) → same (key x) k ≡ b → Each P (map key (with-key xs)) → Each P (map key (cond b (change x ∷ xs) (x ∷ with-key xs)))
      at true e r = (subst P (sym (kept x e)) h.0, h.1)
      at false e r = (h.0, r)

  pub distinct-placed : (xs : List X) → IsDistinct same (map key xs) → IsDistinct same (map key (with-key xs))
  unfolding IsDistinct
  distinct-placed [] d = (tt, tt)
  distinct-placed (x ∷ xs) d = at (same (key x) k) refl (distinct-placed xs d.1)
    where
      at : (b : Bool) → same (key x) k ≡ b → IsDistinct same (map key (with-key xs)) → IsDistinct same (map key (cond b (change x ∷ xs) (x ∷ with-key xs)))
      at true e r = (subst (λ (j : K). Each (λ y. same j y ≡ false) (map key xs)) (sym (kept x e)) d.0, d.1)
      at false e r = (each-key (λ y. same (key x) y ≡ false) xs d.0 e, r)
