-- Kinds of values whose spelling is a function of the value.
use Rattle.std.specs.Prelude.{◌≡◌, ℕ, List}

-- The bytes are the spelling of the value, and the value is in the range of its fields.
pub record SpellsBy {V : Type 0} (InRange : V → Type 0) (spelling : V → List ℕ) (v : V) (bytes : List ℕ) : Type 0 where
  pub range : InRange v
  pub bytes_are : bytes ≡ spelling v
