-- Reading an object: the bytes of its fields, and the only child of a type.
use Rattle.std.specs.Prelude.{ℕ, List, [], ◌∷◌, Option, Some, None, if◌then◌else◌}
use Rattle.stream_objects.specs.declared.tree.Tree.{Tree}
use Rattle.stream_objects.specs.declared.tree.Tree.TheViews.{out-Tree}
use Rattle.stream_objects.specs.Objects.{fields_of}

-- the bytes of the fields, where the object is simple or compound as it has to be
abbrev pub simple_fields : List ℕ → Tree → Option (List ℕ)
simple_fields input tree = if (out-Tree tree).compound then None else Some (fields_of input tree)

abbrev pub compound_fields : List ℕ → Tree → Option (List ℕ)
compound_fields input tree = if (out-Tree tree).compound then Some (fields_of input tree) else None

-- the only one
abbrev pub single : List Tree → Option Tree
single [] = None
single (t ∷ []) = Some t
single (t ∷ u ∷ us) = None

-- the only one of some and what follows them
abbrev pub single_with : Option Tree → List Tree → Option Tree
single_with None us = single us
single_with (Some t) us = single (t ∷ us)
