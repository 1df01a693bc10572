-- The first object of a type in a walk.
use Rattle.std.specs.Prelude.{ℕ, zero, suc, List, [], ◌∷◌, Option, Some, None, if◌then◌else◌}
use Rattle.stream_objects.specs.declared.tree.Tree.{Tree}
use Rattle.stream_objects.specs.declared.tree.Tree.TheViews.{out-Tree}
use Rattle.stream_objects.specs.Objects.{is_kind}

abbrev pub or_else : Option Tree → Option Tree → Option Tree
or_else (Some found) other = Some found
or_else None other = other

abbrev pub first_by : (Tree → Option Tree) → List Tree → Option Tree
first_by search [] = None
first_by search (t ∷ ts) = or_else (search t) (first_by search ts)

unfoldable pub first_of : ℕ → ℕ → Tree → Option Tree
first_of zero kind t = None
first_of (suc levels) kind t = if is_kind kind t then Some t else first_by (first_of levels kind) (out-Tree t).children

abbrev pub first_among : ℕ → ℕ → List Tree → Option Tree
first_among levels kind ts = first_by (first_of levels kind) ts
