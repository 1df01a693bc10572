-- Where an extended GUID stands in a list.
use Rattle.std.specs.Prelude.{◌≡◌, ℕ, suc, Bool, if◌then◌else◌, List, [], ◌∷◌, ◌++◌, Option, Some, None, option_map}
use Rattle.std.specs.List.{list_any}
use Rattle.std.specs.BTreeMap.{BTreeMap, get}
use Rattle.std.specs.Option.{option_cmp}
use Rattle.std.specs.declared.cmp.Ordering.{Ordering}
use Rattle.std.specs.Ordering.{nat_cmp, ordering_then}
use Rattle.compact_values.specs.declared.ids.ExGuid.{ExGuid}
use Rattle.compact_values.specs.declared.ids.ExGuid.TheVariants.{Null, Id}
use Rattle.compact_values.specs.SameIds.{same_id}

-- a list with one more item at its end, unless one is there that is like it
abbrev pub with_new : {X : Type 0} → (X → X → Bool) → List X → X → List X
with_new alike kept x = if list_any (alike x) kept then kept else kept ++ x ∷ []

-- the first place of the id
abbrev pub place_of : List ExGuid → ExGuid → Option ℕ
place_of [] id = None
place_of (x ∷ xs) id = if same_id x id then Some 0 else option_map suc (place_of xs id)

-- an id as a key of a map, and the order in which the map has its keys
abbrev pub key_of : ExGuid → Option (ℕ × ℕ)
key_of Null = None
key_of (Id guid value) = Some (guid.number, value)

abbrev pub key_order : Option (ℕ × ℕ) → Option (ℕ × ℕ) → Ordering
key_order = option_cmp (λ a b. ordering_then (nat_cmp a.0 b.0) (nat_cmp a.1 b.1))

-- the map has the first place of each id
abbrev pub HasPlaces : List ExGuid → BTreeMap (Option (ℕ × ℕ)) ℕ → Type 0
HasPlaces ids places = (id : ExGuid) → get key_order places (key_of id) ≡ place_of ids id
