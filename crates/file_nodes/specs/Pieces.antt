-- A list in pieces.
use Rattle.std.specs.Prelude.{ℕ, zero, suc, List, [], ◌∷◌, length, take, drop}

-- the pieces of n items one behind the other, the last one shorter: at most so many
unfoldable pub pieces_within : {X : Type 0} → ℕ → ℕ → List X → List (List X)
pieces_within zero n xs = []
pieces_within (suc count) n [] = []
pieces_within (suc count) n (x ∷ xs) = take n (x ∷ xs) ∷ pieces_within count n (drop n (x ∷ xs))

-- all of them, which are no more than the items
abbrev pub pieces : {X : Type 0} → ℕ → List X → List (List X)
pieces n xs = pieces_within (length xs) n xs
