-- What a store has under its names.
use Rattle.std.specs.Prelude.{◌≡◌, ℕ, List, Bool, if◌then◌else◌, Some, None, ⊤, Contains}
use Rattle.std.specs.Str.{bytes_eq}
use Rattle.std.specs.declared.option.Option.{Option}

-- What is under a name: nothing, a disk that stands there, or the place of a disk that is lent.
pub data Under (D : Type 0) : Type 0 where
  Nothing : Under D
  Stands : D → Under D
  Lent : Under D

-- What is under each name. A name is its bytes.
abbrev pub Shelf : Type 0 → Type 0
Shelf D = List ℕ → Under D

-- This under the name, and the same as before under each other name.
abbrev pub put : {D : Type 0} → List ℕ → Under D → Shelf D → Shelf D
put name under shelf other = if bytes_eq other name then under else shelf other

-- no name is published
abbrev pub bare : {D : Type 0} → Shelf D
bare name = Nothing

abbrev pub IsPublished : {D : Type 0} → Under D → Type 0
IsPublished Nothing = ⊥
IsPublished (Stands disk) = ⊤
IsPublished Lent = ⊤

abbrev pub IsStanding : {D : Type 0} → Under D → Type 0
IsStanding Nothing = ⊥
IsStanding (Stands disk) = ⊤
IsStanding Lent = ⊥

abbrev pub IsLent : {D : Type 0} → Under D → Type 0
IsLent Nothing = ⊥
IsLent (Stands disk) = ⊥
IsLent Lent = ⊤

-- The names are the published ones, all of them.
pub record ArePublished {D : Type 0} (shelf : Shelf D) (names : List (List ℕ)) : Type 0 where
  pub each : (name : List ℕ) → Contains names name → IsPublished (shelf name)
  pub all : (name : List ℕ) → IsPublished (shelf name) → Contains names name

-- The disk that stood under the name is lent, where it is told.
abbrev pub Lends : {D : Type 0} → List ℕ → Option (Shelf D) → Option (Shelf D) → D → Type 0
Lends {D} name None after disk = after ≡ None
Lends {D} name (Some shelf) after disk = (shelf name ≡ Stands disk) × (after ≡ Some (put name Lent shelf))
