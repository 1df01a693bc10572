-- An index of objects by their ids.
use Rattle.std.specs.Prelude.{◌≡◌, ℕ, ◌+◌, List, length, unwrap_or}
use Rattle.std.specs.BTreeMap.{BTreeMap, get}
use Rattle.std.specs.Ordering.{nat_cmp, ordering_then}
use Rattle.std.specs.declared.cmp.Ordering.{Ordering}
use Rattle.compact_values.specs.declared.ids.ExGuid.{ExGuid}
use Rattle.compact_values.specs.declared.ids.ExGuid.TheVariants.{Null, Id}
use Rattle.file_nodes.specs.Links.{place_of}
use Rattle.file_nodes.specs.StoredObjects.{StoredObject}

-- an id as a pair of numbers
abbrev pub key_of : ExGuid → ℕ × ℕ
key_of Null = (0, 0)
key_of (Id guid value) = (guid.number, value + 1)

abbrev pub key_cmp : ℕ × ℕ → ℕ × ℕ → Ordering
key_cmp a b = ordering_then (nat_cmp a.0 b.0) (nat_cmp a.1 b.1)

-- the place that the map has for an id, or this one where it has none
abbrev pub place_in : BTreeMap (ℕ × ℕ) ℕ → ℕ → ExGuid → ℕ
place_in index absent id = unwrap_or (get key_cmp index (key_of id)) absent

-- The map has the place of the first object with each id.
abbrev pub IsIndex : List StoredObject → BTreeMap (ℕ × ℕ) ℕ → Type 0
IsIndex objects index = (id : ExGuid) → place_in index (length objects) id ≡ place_of objects id
