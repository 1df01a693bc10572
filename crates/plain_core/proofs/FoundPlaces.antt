-- What stands at the first place of an id is what is found by it.
use Rattle.std.proofs.Common.{◌≡◌, ℕ, suc, refl, ap, Bool, true, false, cond, ◌||◌, List, [], ◌∷◌, map, Option, Some, None, option_map, option_and_then, find, slice_get}
use Rattle.std.specs.List.{list_any}
use Rattle.compact_values.specs.declared.ids.ExGuid.{ExGuid}
use Rattle.compact_values.specs.IdPlaces.{place_of}
use Rattle.compact_values.specs.SameIds.{same_id}
use Rattle.doc_model.specs.declared.element.Element.{Element}
use Rattle.doc_model.specs.declared.element.RevisionMap.{RevisionMap}
use Rattle.doc_model.specs.rules.Finding.{find_element}
use Rattle.doc_model.specs.rules.Reached.{mapping_of}

-- what stands at the first place of a key
module _ {X : Type 0} (key : X → ExGuid) where
  step : (b : Bool) (x : X) (xs : List X) (o : Option ℕ) (found : Option X) → option_and_then (slice_get xs) o ≡ found
      → option_and_then (slice_get (x ∷ xs)) (cond b (Some 0) (option_map suc o)) ≡ cond b (Some x) found
  step true x xs o found later = refl
  step false x xs None found later = later
  step false x xs (Some k) found later = later

  key-found : (xs : List X) (id : ExGuid) → option_and_then (slice_get xs) (place_of (map key xs) id) ≡ find (λ x. same_id (key x) id) xs
  key-found [] id = refl
  key-found (x ∷ xs) id = step (same_id (key x) id) x xs (place_of (map key xs) id) (find (λ y. same_id (key y) id) xs) (key-found xs id)

pub place-found : (es : List Element) (id : ExGuid) → option_and_then (slice_get es) (place_of (map (λ e. e.id) es) id) ≡ find_element es id
place-found es id = key-found (λ e. e.id) es id

pub mapping-found : (maps : List RevisionMap) (id : ExGuid) → option_and_then (slice_get maps) (place_of (map (λ m. m.revision) maps) id) ≡ mapping_of maps id
mapping-found maps id = key-found (λ m. m.revision) maps id

-- an id is one of the ids of these elements where one of them has it
pub any-id : (id : ExGuid) (es : List Element) → list_any (same_id id) (map (λ e. e.id) es) ≡ list_any (λ e. same_id id e.id) es
any-id id [] = refl
any-id id (e ∷ es) = ap (λ b. same_id id e.id || b) (any-id id es)
