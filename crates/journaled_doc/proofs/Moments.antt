-- What a crash leaves in calls one after the other.
use Rattle.std.proofs.Common.{◌⊎◌, inl, inr, ⊎_elim, ℕ, List, arith}
use Rattle.host_edge.specs.Disks.{LeavesOnly}

module _ {D : Type 0} (moment : D → ℕ) (left_since : D → ℕ → List ℕ → Type 0) where
  -- one call and then another
  pub then_leaves : (old mid new : D) (P Q : List ℕ → Type 0) → LeavesOnly moment left_since old mid P → LeavesOnly moment left_since mid new Q
      → LeavesOnly moment left_since old new (λ c. P c ⊎ Q c)
  then_leaves old mid new P Q one two = record {
    later = omega (arith, one.later, two.later);
    each = λ c left. ⊎_elim (λ earlier. inl (one.each c earlier)) (λ now. inr now) (two.before (moment old) c one.later left);
    before = λ t c le left.
        ⊎_elim (λ earlier. ⊎_elim (λ old. inl old) (λ now. inr (inl now)) (one.before t c le earlier)) (λ now. inr (inr now)) (two.before t c (omega (arith, le, one.later)) left);
  }

  pub leaves_more : (old new : D) (P Q : List ℕ → Type 0) → LeavesOnly moment left_since old new P → ((c : List ℕ) → P c → Q c) → LeavesOnly moment left_since old new Q
  leaves_more old new P Q one more = record {
    later = one.later;
    each = λ c left. more c (one.each c left);
    before = λ t c le left. ⊎_elim (λ earlier. inl earlier) (λ now. inr (more c now)) (one.before t c le left);
  }

  -- nothing is done
  pub still : (d : D) (P : List ℕ → Type 0) → ((c : List ℕ) → left_since d (moment d) c → P c) → LeavesOnly moment left_since d d P
  still d P now = record { later = omega arith; each = now; before = λ t c le left. inl left }
