-- A write and the sync behind it.
use Rattle.std.proofs.Common.{ℕ, List, inl, inr, ⊎_elim, arith}
use Rattle.host_edge.specs.Disks.{Torn, Follows, NoneIsNew, Elapses, LeavesOnly}
use Rattle.host_edge.specs.MemDiskLaws.{torn_nothing}
use Rattle.cell_journal.specs.Stores.{HasPart, Adds}

pub synced_left : (place : ℕ) (bytes : List ℕ) (first mid last : List ℕ → Type 0) → Follows (Torn place bytes) first mid → NoneIsNew mid last → Follows (Torn place bytes) first last
synced_left place bytes first mid last crash none c left = crash c (none c left)

module _ {D : Type 0} (may_leave : D → List ℕ → Type 0) (moment : D → ℕ) (left_since : D → ℕ → List ℕ → Type 0) (place : ℕ) (bytes : List ℕ) where
  pub write_adds : (start disk : D) → Follows (Torn place bytes) (may_leave start) (may_leave disk)
      → Elapses (moment start) (moment disk) (left_since start) (left_since disk) (may_leave disk)
      → Adds moment left_since start disk (HasPart place bytes (may_leave start))
  write_adds start disk crash time = record {
    later = time.later;
    only = λ t c le left. ⊎_elim (λ was. inl was) (λ now. inr (crash c now)) (time.nothing_else t c le left);
  }

  pub sync_adds : (start mid disk : D) → Adds moment left_since start mid (HasPart place bytes (may_leave start))
      → Follows (Torn place bytes) (may_leave start) (may_leave mid) → NoneIsNew (may_leave mid) (may_leave disk)
      → Elapses (moment mid) (moment disk) (left_since mid) (left_since disk) (may_leave disk)
      → Adds moment left_since start disk (HasPart place bytes (may_leave start))
  sync_adds start mid disk adds crash none time = record {
    later = omega (arith, adds.later, time.later);
    only = λ t c le left. ⊎_elim (adds.only t c le) (λ now. inr (crash c (none c now))) (time.nothing_else t c (omega (arith, le, adds.later)) left);
  }

  -- each crash left what has P, where that is so of the images from before and of these with some part of the bytes
  pub leaves_only : ((disk : D) (c : List ℕ) → left_since disk (moment disk) c → may_leave disk c) → (start disk : D) (P : List ℕ → Type 0)
      → ((c : List ℕ) → HasPart place bytes (may_leave start) c → P c) → Adds moment left_since start disk (HasPart place bytes (may_leave start)) → LeavesOnly moment left_since start disk P
  leaves_only only_now start disk P has adds = record {
    later = adds.later;
    each = λ c left. has c (⊎_elim (λ was. let here = only_now start c was in (c, here, torn_nothing place bytes c)) (λ is. is) (adds.only (moment start) c (omega arith) left));
    before = λ t c le left. ⊎_elim (λ was. inl was) (λ is. inr (has c is)) (adds.only t c le left);
  }

-- one run behind another
pub then : {D : Type 0} (moment : D → ℕ) (left_since : D → ℕ → List ℕ → Type 0) (old mid new : D) (P : List ℕ → Type 0)
    → LeavesOnly moment left_since old mid P → LeavesOnly moment left_since mid new P → LeavesOnly moment left_since old new P
then moment left_since old mid new P first second = record {
  later = omega (arith, first.later, second.later);
  each = λ c left. ⊎_elim (first.each c) (λ is. is) (second.before (moment old) c first.later left);
  before = λ t c le left. ⊎_elim (first.before t c le) (λ is. inr is) (second.before t c (omega (arith, le, first.later)) left);
}
