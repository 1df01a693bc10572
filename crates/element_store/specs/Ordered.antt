-- Places of elements in the order of the elements' ids.
use Rattle.std.specs.Prelude.{◌≡◌, ℕ, suc, nat_lt, Bool, true, false, ◌&&◌, if◌then◌else◌, List, [], ◌∷◌, length, map, Option, None, Some, find, slice_get}
use Rattle.std.specs.List.{list_all}
use Rattle.compact_values.specs.declared.ids.ExGuid.{ExGuid}
use Rattle.compact_values.specs.declared.ids.ExGuid.TheVariants.{Null, Id}
use Rattle.compact_values.specs.IdPlaces.{place_of}
use Rattle.compact_values.specs.SameIds.{same_guid, same_id}
use Rattle.doc_model.specs.declared.element.Element.{Element}

-- whether an id comes before another: null first, then by the GUID's number and the value
abbrev pub comes_first : ExGuid → ExGuid → Bool
comes_first Null Null = false
comes_first Null (Id h w) = true
comes_first (Id g v) Null = false
comes_first (Id g v) (Id h w) = if same_guid g h then nat_lt v w else nat_lt g.number h.number

-- the id of the element at a place
abbrev pub id_of : Option Element → ExGuid
id_of None = Null
id_of (Some e) = e.id

abbrev pub id_at : List Element → ℕ → ExGuid
id_at es place = id_of (slice_get es place)

-- places of which each comes, by its id, before all behind it
abbrev pub are_ordered : (ℕ → ExGuid) → List ℕ → Bool
are_ordered at [] = true
are_ordered at (p ∷ ps) = list_all (λ q. comes_first (at p) (at q)) ps && are_ordered at ps

-- how many of the places, from the front, come before an id
abbrev pub rank_in : (ℕ → ExGuid) → List ℕ → ExGuid → ℕ
rank_in at [] id = 0
rank_in at (p ∷ ps) id = if comes_first (at p) id then suc (rank_in at ps id) else 0

-- the first of the places with an id
abbrev pub placed : (ℕ → ExGuid) → List ℕ → ExGuid → Option ℕ
placed at places id = find (λ p. same_id (at p) id) places

-- places of elements that are in order, and among which each id has the place that it has among the elements
pub record IsOrderOf (es : List Element) (places : List ℕ) : Type 0 where
  pub ordered : are_ordered (id_at es) places ≡ true
  pub within : list_all (λ p. nat_lt p (length es)) places ≡ true
  pub found : (id : ExGuid) → placed (id_at es) places id ≡ place_of (map (λ e. e.id) es) id
