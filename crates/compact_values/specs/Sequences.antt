-- Values one behind the other, as the fields of an object are.
use Rattle.std.specs.Prelude.{◌≡◌, ℕ, List, [], ◌∷◌, ◌++◌}
use Rattle.compact_values.specs.Both.{SpellsBoth}

-- one value behind the other
infixr 5 ◌▹◌
abbrev pub ◌▹◌ : {A B : Type 0} → (A → List ℕ → Type 0) → (B → List ℕ → Type 0) → A × B → List ℕ → Type 0
First ▹ Second = SpellsBoth First Second

-- The bytes begin with a spelling of the value. What follows it is ignored.
pub record Begins {V : Type 0} (Spells : V → List ℕ → Type 0) (v : V) (bytes : List ℕ) : Type 0 where
  pub front : List ℕ
  pub rest : List ℕ
  pub spelled : Spells v front
  pub bytes_are : bytes ≡ front ++ rest

-- one byte
abbrev pub SpellsByte : ℕ → List ℕ → Type 0
SpellsByte b bytes = bytes ≡ b ∷ []
