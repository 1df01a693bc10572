-- A walk through trees from the front, parents before children.
use Rattle.std.specs.Prelude.{ℕ, zero, suc, List, [], ◌∷◌}
use Rattle.std.specs.List.{flat_map}
use Rattle.stream_objects.specs.declared.tree.Tree.{Tree}
use Rattle.stream_objects.specs.declared.tree.Tree.TheViews.{out-Tree}

-- the objects of a tree, down to so many levels
abbrev pub walk : ℕ → Tree → List Tree
walk zero t = []
walk (suc levels) t = t ∷ flat_map (walk levels) (out-Tree t).children

-- everything below an object. A tree that was read has at most 12 levels.
abbrev pub below : Tree → List Tree
below t = flat_map (walk 12) (out-Tree t).children
