-- What the children of an object add, one after the other.
use Rattle.std.specs.Prelude.{◌≡◌, ℕ, List, [], ◌∷◌, ◌++◌, Result, Ok, Err}
use Rattle.stream_objects.specs.declared.tree.Tree.{Tree}

-- These objects add these values, each some of them or none.
abbrev pub Gathers : {V : Type 0} → (Tree → List V → Type 0) → List Tree → List V → Type 0
Gathers Adds [] vs = vs ≡ []
Gathers {V} Adds (t ∷ ts) vs = (first : List V) × (others : List V) × Adds t first × Gathers Adds ts others × (vs ≡ first ++ others)

-- the next step, where the first gave a value
abbrev pub and_then : {A B : Type 0} → Result A ℕ → (A → Result B ℕ) → Result B ℕ
and_then (Ok a) next = next a
and_then (Err place) next = Err place

-- one object after the other is read behind what was read before
abbrev pub gather : {V : Type 0} → (List V → Tree → Result (List V) ℕ) → List V → List Tree → Result (List V) ℕ
gather read vs [] = Ok vs
gather read vs (t ∷ ts) = and_then (read vs t) (λ more. gather read more ts)
