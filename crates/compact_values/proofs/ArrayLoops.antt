-- The loop over the items of an array.
use Rattle.std.proofs.Common.{◌≡◌, ℕ, ◌-◌, ◌≤◌, List, [], length, drop}
use Rattle.compact_values.specs.Placed.{PartReading, items_at}

-- Some items were read up to `place`, and what is left to be read makes them whole.
pub record Underway {V : Type 0} (read : List ℕ → PartReading V) (bytes : List ℕ) (at first count : ℕ) (done : List V) (place left : ℕ) : Type 0 where
  pub order : at ≤ place
  pub within : place ≤ length bytes
  pub items_are : items_at read left done (place - at) (drop place bytes) ≡ items_at read count [] (first - at) (drop first bytes)
