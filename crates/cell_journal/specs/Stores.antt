-- What a write leaves that a sync follows.
use Rattle.std.specs.Prelude.{◌⊎◌, ℕ, ◌≤◌, List}
use Rattle.host_edge.specs.Disks.{Torn}

-- an image from before, with the bytes written over it in some part
abbrev pub HasPart : ℕ → List ℕ → (List ℕ → Type 0) → List ℕ → Type 0
HasPart place bytes images c = (old : List ℕ) × images old × Torn place bytes old c

-- From one moment to another a crash left nothing that it might not have left before, but for what has P.
pub record Adds {D : Type 0} (moment : D → ℕ) (left_since : D → ℕ → List ℕ → Type 0) (old new : D) (P : List ℕ → Type 0) : Type 0 where
  pub later : moment old ≤ moment new
  pub only : (t : ℕ) (c : List ℕ) → t ≤ moment old → left_since new t c → left_since old t c ⊎ P c
