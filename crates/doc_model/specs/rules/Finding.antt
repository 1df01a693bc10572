-- The elements of a document: what stands under an id, by the kind that a place needs.
use Rattle.std.specs.Prelude.{ℕ, ◌+◌, Bool, List, [], ◌∷◌, find, fold, Option, None, Some, option_and_then}
use Rattle.compact_values.specs.declared.ids.ExGuid.{ExGuid}
use Rattle.compact_values.specs.IdPlaces.{with_new}
use Rattle.compact_values.specs.SameIds.{same_id}
use Rattle.doc_model.specs.declared.element.Element.{Element}
use Rattle.doc_model.specs.declared.element.Body.{Body}
use Rattle.doc_model.specs.declared.element.Body.TheVariants.{Index, Storage, Cell, Revision, Group, Blob}
use Rattle.doc_model.specs.declared.element.ManifestMap.{ManifestMap}
use Rattle.doc_model.specs.declared.element.CellMap.{CellMap}
use Rattle.doc_model.specs.declared.element.RevisionMap.{RevisionMap}
use Rattle.doc_model.specs.declared.element.Root.{Root}
use Rattle.doc_model.specs.declared.element.RevisionRoot.{RevisionRoot}
use Rattle.doc_model.specs.declared.element.Object.{Object}
use Rattle.doc_model.specs.declared.element.NumberedElement.{NumberedElement}

-- the element with this id, or none
abbrev pub find_element : List Element → ExGuid → Option Element
find_element added id = find (λ e. same_id e.id id) added

-- what an index, a storage manifest, a cell manifest, a revision manifest, a group and a blob say
pub record Mappings : Type 0 where
  pub manifests : List ManifestMap
  pub cells : List CellMap
  pub revisions : List RevisionMap

pub record Manifest : Type 0 where
  pub base : ExGuid
  pub roots : List RevisionRoot
  pub groups : List ExGuid

abbrev pub as_index : Body → Option Mappings
as_index (Index m c r) = Some (record { manifests = m; cells = c; revisions = r })
as_index _ = None

abbrev pub as_storage : Body → Option (List Root)
as_storage (Storage schema roots) = Some roots
as_storage _ = None

abbrev pub as_cell : Body → Option ExGuid
as_cell (Cell current) = Some current
as_cell _ = None

abbrev pub as_revision : Body → Option Manifest
as_revision (Revision id b r g) = Some (record { base = b; roots = r; groups = g })
as_revision _ = None

abbrev pub as_group : Body → Option (List Object)
as_group (Group objects) = Some objects
as_group _ = None

abbrev pub as_blob : Body → Option (List ℕ)
as_blob (Blob bytes) = Some bytes
as_blob _ = None

-- what the element with this id says, where it is there and of that kind
abbrev pub said : {X : Type 0} → (Body → Option X) → List Element → ExGuid → Option X
said as_kind added id = option_and_then (λ e. as_kind e.body) (find_element added id)

-- the elements with their serials, from n on
abbrev pub numbered_from : ℕ → List Element → List NumberedElement
numbered_from n [] = []
numbered_from n (e ∷ es) = record { serial = n; element = e } ∷ numbered_from (n + 1) es

-- the first of these
abbrev pub first : {X : Type 0} → List X → Option X
first [] = None
first (x ∷ xs) = Some x

-- of items that are alike the first one alone
abbrev pub firsts : {X : Type 0} → (X → X → Bool) → List X → List X
firsts alike xs = fold (with_new alike) [] xs
