-- A disk that is lent, and the same disk later.
use Rattle.std.specs.Prelude.{◌≡◌, ℕ, List}
use Rattle.std.specs.declared.option.Option.{Option}
use Rattle.host_edge.specs.Disks.{SameImages}

module _ {D : Type 0} (seen : D → Option (List ℕ)) (may_leave : D → List ℕ → Type 0) (moment : D → ℕ) (left_since : D → ℕ → List ℕ → Type 0) where
  -- All that the one disk tells of its bytes the other tells too, and each image of the one is an image of the other.
  pub record SameBytes (one other : D) : Type 0 where
    pub reads : seen other ≡ seen one
    pub images : SameImages (may_leave one) (may_leave other)
    pub time : moment other ≡ moment one
    pub since : (t : ℕ) → SameImages (left_since one t) (left_since other t)
