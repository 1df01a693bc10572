-- The attributes that the writer is given, as pairs of a name and a value.
use Rattle.std.specs.Prelude.{ℕ, List, [], ◌∷◌}
use Rattle.envelope_write.specs.declared.xml.Attribute.{Attribute}

abbrev pub as_pairs : List Attribute → List (List ℕ × List ℕ)
as_pairs [] = []
as_pairs (attribute ∷ more) = (attribute.name.now, attribute.value.now) ∷ as_pairs more
