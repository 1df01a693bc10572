-- Where an id stands among places in order.
use Rattle.std.proofs.Common.{◌≡◌, ℕ, zero, suc, ◌<◌, ◌≤◌, refl, sym, ◌∙◌, ap, Bool, true, false, cond, ◌&&◌, List, [], ◌∷◌, length, get_or, Some, None, arith, if◌then◌else◌}
use Rattle.std.specs.List.{list_all}
use Rattle.std.specs.List.Sorted.{IsPartitionedBy, IsPartitionPoint}
use Rattle.compact_values.specs.declared.ids.ExGuid.{ExGuid}
use Rattle.compact_values.specs.SameIds.{same_id}
use Rattle.element_store.specs.Ordered.{comes_first, are_ordered, rank_in, placed}
use Rattle.element_store.proofs.IdOrder.{first-trans, first-differs, behind-differs}

pub both : (a b : Bool) → (a && b) ≡ true → (a ≡ true) × (b ≡ true)
both true b h = (refl, h)
both false b h = cc

pub one-of-all : (test : ℕ → Bool) (ps : List ℕ) (i d : ℕ) → list_all test ps ≡ true → i < length ps → test (get_or ps i d) ≡ true
one-of-all test [] i d h l = absurd (omega arith)
one-of-all test (p ∷ ps) zero d h l = (both (test p) (list_all test ps) h).0
one-of-all test (p ∷ ps) (suc i) d h l = one-of-all test ps i d (both (test p) (list_all test ps) h).1 (omega arith)

module _ (at : ℕ → ExGuid) where
  abbrev pub behind : ℕ → List ℕ → Bool
  behind p ps = list_all (λ q. comes_first (at p) (at q)) ps

  -- those that come before an id come first
  pub parted : (ps : List ℕ) (id : ExGuid) → are_ordered at ps ≡ true → IsPartitionedBy (λ p. comes_first (at p) id) ps
  parted [] id o i j d a b h = absurd (omega arith)
  parted (p ∷ ps) id o zero zero d a b h = h
  parted (p ∷ ps) id o zero (suc j) d a b h =
      first-trans (at p) (at (get_or ps j d)) id (one-of-all (λ q. comes_first (at p) (at q)) ps j d (both (behind p ps) (are_ordered at ps) o).0 (omega arith)) h
  parted (p ∷ ps) id o (suc i) zero d a b h = absurd (omega arith)
  parted (p ∷ ps) id o (suc i) (suc j) d a b h = parted ps id (both (behind p ps) (are_ordered at ps) o).1 i j d (omega arith) (omega arith) h

  -- a point between them and the others is the rank
  pub point : (ps : List ℕ) (id : ExGuid) (n : ℕ) → n ≤ length ps
      → IsPartitionPoint (λ p. comes_first (at p) id ≡ true) (λ p. comes_first (at p) id ≡ false) ps n → n ≡ rank_in at ps id
  point [] id n l h = omega arith
  point (p ∷ ps) id zero l h = let e : comes_first (at p) id ≡ false = h.1 0 p (omega arith) (omega arith) in rw e refl
  point (p ∷ ps) id (suc n) l h =
      let e : comes_first (at p) id ≡ true = h.0 0 p (omega arith) (omega arith) in
      let ih : n ≡ rank_in at ps id =
      point ps id n (omega arith) (λ k d a b. h.0 (suc k) d (omega arith) (omega arith), λ k d a b. h.1 (suc k) d (omega arith) (omega arith)) in
      rw e (ap suc ih)

  -- none behind a place that doesn't come before an id has it
  none-behind : (p : ℕ) (ps : List ℕ) (id : ExGuid) → comes_first (at p) id ≡ false → behind p ps ≡ true → placed at ps id ≡ None
  none-behind p [] id n h = refl
  none-behind p (q ∷ ps) id n h =
      let t = both (comes_first (at p) (at q)) (behind p ps) h in
      rw (behind-differs (at p) (at q) id t.0 n) (none-behind p ps id n t.1)

  -- an id stands at its rank, or nowhere
  pub placed-none : (ps : List ℕ) (id : ExGuid) → are_ordered at ps ≡ true → length ps ≤ rank_in at ps id → placed at ps id ≡ None
  placed-none [] id o l = refl
  placed-none (p ∷ ps) id o l = by_test (comes_first (at p) id) refl (placed-none ps id (both (behind p ps) (are_ordered at ps) o).1) l
    where
      by_test : (b : Bool) → comes_first (at p) id ≡ b → (length ps ≤ rank_in at ps id → placed at ps id ≡ None)
          → suc (length ps) ≤ (if b then suc (rank_in at ps id) else 0) → placed at (p ∷ ps) id ≡ None
      by_test true e rest q = rw (first-differs (at p) id e) (rest (omega arith))
      by_test false e rest q = absurd (omega arith)

  pub placed-some : (ps : List ℕ) (id : ExGuid) (d : ℕ) → are_ordered at ps ≡ true → rank_in at ps id < length ps
      → placed at ps id ≡ cond (same_id (at (get_or ps (rank_in at ps id) d)) id) (Some (get_or ps (rank_in at ps id) d)) None
  placed-some [] id d o l = absurd (omega arith)
  placed-some (p ∷ ps) id d o l =
      by_test (comes_first (at p) id) refl (placed-some ps id d (both (behind p ps) (are_ordered at ps) o).1) l
    where
      by_test : (b : Bool) → comes_first (at p) id ≡ b
          → (rank_in at ps id < length ps → placed at ps id ≡ cond (same_id (at (get_or ps (rank_in at ps id) d)) id) (Some (get_or ps (rank_in at ps id) d)) None)
          → (if b then suc (rank_in at ps id) else 0) < suc (length ps)
          → placed at (p ∷ ps) id ≡ cond (same_id (at (get_or (p ∷ ps) (if b then suc (rank_in at ps id) else 0) d)) id) (Some (get_or (p ∷ ps) (if b then suc (rank_in at ps id) else 0) d)) None
      by_test true e rest q = rw (first-differs (at p) id e) (rest (omega arith))
      by_test false e rest q = ap (λ o. cond (same_id (at p) id) (Some p) o) (none-behind p ps id e (both (behind p ps) (are_ordered at ps) o).0)

  -- what is placed is one of the places
  pub placed-one : (ps : List ℕ) (id : ExGuid) (test : ℕ → Bool) (p : ℕ) → list_all test ps ≡ true → placed at ps id ≡ Some p → test p ≡ true
  placed-one [] id test p h q = cc
  placed-one (x ∷ ps) id test p h q =
      let t = both (test x) (list_all test ps) h in
      by_test (same_id (at x) id) t.0 (placed-one ps id test p t.1) q
    where
      by_test : (b : Bool) → test x ≡ true → (placed at ps id ≡ Some p → test p ≡ true) → cond b (Some x) (placed at ps id) ≡ Some p → test p ≡ true
      by_test true e rest r = ap test (same-some x p (sym r)) ∙ e
        where
          same-some : (a b : ℕ) → Some b ≡ Some a → b ≡ a
          same-some a b w = cc
      by_test false e rest r = rest r

  pub placed-at : (ps : List ℕ) (id : ExGuid) (p : ℕ) → are_ordered at ps ≡ true → rank_in at ps id < length ps → p ≡ get_or ps (rank_in at ps id) p
      → placed at ps id ≡ cond (same_id (at p) id) (Some p) None
  placed-at ps id p o l h = placed-some ps id p o l ∙ ap (λ k. cond (same_id (at k) id) (Some k) None) (sym h)
