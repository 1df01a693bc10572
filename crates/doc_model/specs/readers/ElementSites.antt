-- The objects that have a place in a package, in reading order, and the form that each has for itself: whether an object
-- is in its own form doesn't depend on the forms of its children, only on which of them are there. An element is also
-- out of its own form where the two halves of a group don't belong together.
use Rattle.std.specs.Prelude.{◌≡◌, ◌⊎◌, ◌||◌, ◌==◌, ℕ, Bool, List, [], ◌∷◌, map, Option, Some, None, if◌then◌else◌}
use Rattle.std.specs.Prelude.{option_and_then}
use Rattle.std.specs.List.{flat_map}
use Rattle.compact_values.specs.declared.guid.Guid.{Guid}
use Rattle.compact_values.specs.declared.ids.ExGuid.{ExGuid}
use Rattle.compact_values.specs.declared.ids.Serial.{Serial}
use Rattle.compact_values.specs.declared.ids.CellId.{CellId}
use Rattle.compact_values.specs.Taking.{take_exguid, take_serial, take_compact, take_both, if_all}
use Rattle.stream_objects.specs.declared.tree.Tree.{Tree}
use Rattle.stream_objects.specs.declared.tree.Tree.TheViews.{out-Tree}
use Rattle.stream_objects.specs.Objects.{HasOne, kind_of, is_kind, start_of, children_of}
use Rattle.stream_objects.specs.ObjectFields.{compound_fields}
use Rattle.stream_objects.specs.declared.object_types.TheConstants.{CELL_MANIFEST_CURRENT_REVISION, DATA_ELEMENT, OBJECT_DATA_BLOB, OBJECT_GROUP_DATA, OBJECT_GROUP_DECLARATIONS, OBJECT_GROUP_OBJECT_BLOB_DATA_DECLARATION, OBJECT_GROUP_OBJECT_DATA, OBJECT_GROUP_OBJECT_DATA_BLOB_REFERENCE, OBJECT_GROUP_OBJECT_DECLARE, REVISION_MANIFEST, REVISION_MANIFEST_OBJECT_GROUP_REFERENCES, REVISION_MANIFEST_ROOT_DECLARE, STORAGE_INDEX_CELL_MAPPING, STORAGE_INDEX_MANIFEST_MAPPING, STORAGE_INDEX_REVISION_MAPPING, STORAGE_MANIFEST_ROOT_DECLARE, STORAGE_MANIFEST_SCHEMA_GUID}
use Rattle.doc_model.specs.wire.ElementObjects.{NoFields, PackageFields, ElementFields, ObjectDeclaration, BlobDeclaration, ObjectData, BlobReference, BlobContent}
use Rattle.doc_model.specs.wire.Groups.{HalvesAgree, declarations_in, data_in}
use Rattle.doc_model.specs.declared.element.ManifestMap.{ManifestMap}
use Rattle.doc_model.specs.declared.element.CellMap.{CellMap}
use Rattle.doc_model.specs.declared.element.RevisionMap.{RevisionMap}
use Rattle.doc_model.specs.declared.element.Root.{Root}
use Rattle.doc_model.specs.declared.element.RevisionRoot.{RevisionRoot}
use Rattle.wire_kinds.specs.Row.{IsOf}
use Rattle.doc_model.specs.wire.ElementRows.{manifest_mapping, cell_mapping, revision_mapping, schema_guid, manifest_root, current_revision, revision_manifest, revision_root, group_reference}

-- a package, an element, a child of an element, and a declaration or the data of an object of a group
pub data Site : Type 0 where
  package_object : Tree → Site
  element : Tree → Site
  child : Tree → Site
  member : Tree → Site

-- The kind is known, and of what comes once there is one.
pub record KindInForm (input : List ℕ) (kind : ℕ) (t : Tree) : Type 0 where
  pub known : (kind ≡ 1) ⊎ ((kind ≡ 2) ⊎ ((kind ≡ 3) ⊎ ((kind ≡ 4) ⊎ ((kind ≡ 5) ⊎ (kind ≡ 10)))))
  pub storage : kind ≡ 2 → HasOne STORAGE_MANIFEST_SCHEMA_GUID t
  pub cell : kind ≡ 3 → HasOne CELL_MANIFEST_CURRENT_REVISION t
  pub revision : kind ≡ 4 → HasOne REVISION_MANIFEST t
  pub group : kind ≡ 5 → HalvesAgree input t
  pub blob : kind ≡ 10 → HasOne OBJECT_DATA_BLOB t

-- Its fields are those of its type.
pub record ChildInForm (input : List ℕ) (t : Tree) : Type 0 where
  pub blob : kind_of t ≡ OBJECT_DATA_BLOB → (v : List ℕ) × BlobContent input t v
  pub manifest_root : kind_of t ≡ STORAGE_MANIFEST_ROOT_DECLARE → (v : Root) × IsOf manifest_root input t v
  pub revision_root : kind_of t ≡ REVISION_MANIFEST_ROOT_DECLARE → (v : RevisionRoot) × IsOf revision_root input t v
  pub current : kind_of t ≡ CELL_MANIFEST_CURRENT_REVISION → (v : ExGuid) × IsOf current_revision input t v
  pub schema : kind_of t ≡ STORAGE_MANIFEST_SCHEMA_GUID → (v : Guid) × IsOf schema_guid input t v
  pub revision_mapping : kind_of t ≡ STORAGE_INDEX_REVISION_MAPPING → (v : RevisionMap) × IsOf revision_mapping input t v
  pub cell_mapping : kind_of t ≡ STORAGE_INDEX_CELL_MAPPING → (v : CellMap) × IsOf cell_mapping input t v
  pub manifest_mapping : kind_of t ≡ STORAGE_INDEX_MANIFEST_MAPPING → (v : ManifestMap) × IsOf manifest_mapping input t v
  pub group : kind_of t ≡ REVISION_MANIFEST_OBJECT_GROUP_REFERENCES → (v : ExGuid) × IsOf group_reference input t v
  pub revision : kind_of t ≡ REVISION_MANIFEST → (v : ExGuid × ExGuid) × IsOf revision_manifest input t v
  pub declarations : kind_of t ≡ OBJECT_GROUP_DECLARATIONS → NoFields input t
  pub data_of : kind_of t ≡ OBJECT_GROUP_DATA → NoFields input t

-- Its fields are those of its type.
pub record MemberInForm (input : List ℕ) (t : Tree) : Type 0 where
  pub blob_declaration : kind_of t ≡ OBJECT_GROUP_OBJECT_BLOB_DATA_DECLARATION → (id : ExGuid) × (blob : ExGuid) × (partition : ℕ) × (size : ℕ) × BlobDeclaration input t id blob partition size
  pub object_data : kind_of t ≡ OBJECT_GROUP_OBJECT_DATA → (references : List ExGuid) × (cells : List CellId) × (bytes : List ℕ) × ObjectData input t references cells bytes
  pub declaration : kind_of t ≡ OBJECT_GROUP_OBJECT_DECLARE → (id : ExGuid) × (partition : ℕ) × (size : ℕ) × ObjectDeclaration input t id partition size
  pub blob_reference : kind_of t ≡ OBJECT_GROUP_OBJECT_DATA_BLOB_REFERENCE → (references : List ExGuid) × (cells : List CellId) × (blob : ExGuid) × BlobReference input t references cells blob

-- The object is in its form, whatever its children are for themselves.
abbrev pub InOwnForm : List ℕ → Site → Type 0
InOwnForm input (package_object t) = PackageFields input t
InOwnForm input (element t) = (id : ExGuid) × (serial : Serial) × (kind : ℕ) × ElementFields input t id serial kind × KindInForm input kind t
InOwnForm input (child t) = ChildInForm input t
InOwnForm input (member t) = MemberInForm input t

-- where its fields start
abbrev pub site_start : Site → ℕ
site_start (package_object t) = start_of t
site_start (element t) = start_of t
site_start (child t) = start_of t
site_start (member t) = start_of t

-- ---- reading order

-- the fields of an element, where it has them
abbrev pub element_row : List ℕ → Tree → Option (ExGuid × (Serial × ℕ))
element_row input t = option_and_then (λ b. if_all (take_both take_exguid (take_both take_serial take_compact) b)) (compound_fields input t)

-- whether an object of its type has a place in an element of a kind
abbrev pub has_place : ℕ → Tree → Bool
has_place kind t =
    if kind == 1 then is_kind STORAGE_INDEX_MANIFEST_MAPPING t || is_kind STORAGE_INDEX_CELL_MAPPING t || is_kind STORAGE_INDEX_REVISION_MAPPING t
    else if kind == 2 then is_kind STORAGE_MANIFEST_SCHEMA_GUID t || is_kind STORAGE_MANIFEST_ROOT_DECLARE t
    else if kind == 3 then is_kind CELL_MANIFEST_CURRENT_REVISION t
    else if kind == 4 then is_kind REVISION_MANIFEST t || is_kind REVISION_MANIFEST_ROOT_DECLARE t || is_kind REVISION_MANIFEST_OBJECT_GROUP_REFERENCES t
    else if kind == 5 then is_kind OBJECT_GROUP_DECLARATIONS t || is_kind OBJECT_GROUP_DATA t
    else is_kind OBJECT_DATA_BLOB t

-- what a child of a group holds
abbrev pub members_in : Tree → List Tree
members_in t =
    if is_kind OBJECT_GROUP_DECLARATIONS t then declarations_in t
    else if is_kind OBJECT_GROUP_DATA t then data_in t
    else []

-- a child and, in a group, what it holds
abbrev pub child_sites : ℕ → Tree → List Site
child_sites kind t =
    if has_place kind t then child t ∷ (if kind == 5 then map member (members_in t) else [])
    else []

-- Where an element has its fields, they tell by its kind which of its children have a place.
abbrev pub sites_behind : Option (ExGuid × (Serial × ℕ)) → List Tree → List Site
sites_behind (Some fields) ts = flat_map (child_sites fields.1.1) ts
sites_behind None ts = []

abbrev pub element_sites : List ℕ → Tree → List Site
element_sites input t = element t ∷ sites_behind (element_row input t) (out-Tree t).children

abbrev pub package_sites : List ℕ → Tree → List Site
package_sites input t = package_object t ∷ flat_map (element_sites input) (children_of DATA_ELEMENT t)
