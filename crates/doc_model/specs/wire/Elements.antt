-- Data elements by kind, and a package of them (MS-FSSHTTPB 2.2.1.12). The children of an element come in any order on
-- reading. A child whose type has no place in its element is skipped with all that it holds.
use Rattle.std.specs.Prelude.{◌≡◌, ℕ, List}
use Rattle.compact_values.specs.declared.ids.Serial.{Serial}
use Rattle.stream_objects.specs.declared.tree.Tree.{Tree}
use Rattle.stream_objects.specs.Objects.{One, Any}
use Rattle.stream_objects.specs.declared.object_types.TheConstants.{CELL_MANIFEST_CURRENT_REVISION, DATA_ELEMENT, OBJECT_DATA_BLOB, REVISION_MANIFEST, REVISION_MANIFEST_OBJECT_GROUP_REFERENCES, REVISION_MANIFEST_ROOT_DECLARE, STORAGE_INDEX_CELL_MAPPING, STORAGE_INDEX_MANIFEST_MAPPING, STORAGE_INDEX_REVISION_MAPPING, STORAGE_MANIFEST_ROOT_DECLARE, STORAGE_MANIFEST_SCHEMA_GUID}
use Rattle.doc_model.specs.wire.ElementObjects.{PackageFields, ElementFields, BlobContent}
use Rattle.doc_model.specs.wire.Groups.{SaysGroup}
use Rattle.doc_model.specs.declared.element.Element.{Element}
use Rattle.doc_model.specs.declared.element.Body.{Body}
use Rattle.doc_model.specs.declared.element.Body.TheVariants.{Index, Storage, Cell, Revision, Group, Blob}
use Rattle.wire_kinds.specs.Row.{IsOf}
use Rattle.doc_model.specs.wire.ElementRows.{manifest_mapping, cell_mapping, revision_mapping, schema_guid, manifest_root, current_revision, revision_manifest, revision_root, group_reference}

-- The children of an element of this kind say this. The kinds are decimal: 1 storage index, 2 storage manifest, 3 cell
-- manifest, 4 revision manifest, 5 object group, 10 object data blob. "One" is exactly one, "any" is any number.
abbrev pub SaysBody : List ℕ → Tree → ℕ → Body → Type 0
SaysBody input t kind (Index manifests cells revisions) =
    (kind ≡ 1) × Any STORAGE_INDEX_MANIFEST_MAPPING (IsOf manifest_mapping input) t manifests × Any STORAGE_INDEX_CELL_MAPPING (IsOf cell_mapping input) t cells × Any STORAGE_INDEX_REVISION_MAPPING (IsOf revision_mapping input) t revisions
SaysBody input t kind (Storage schema roots) = (kind ≡ 2) × One STORAGE_MANIFEST_SCHEMA_GUID (IsOf schema_guid input) t schema × Any STORAGE_MANIFEST_ROOT_DECLARE (IsOf manifest_root input) t roots
SaysBody input t kind (Cell current) = (kind ≡ 3) × One CELL_MANIFEST_CURRENT_REVISION (IsOf current_revision input) t current
SaysBody input t kind (Revision id base roots groups) =
    (kind ≡ 4) × One REVISION_MANIFEST (IsOf revision_manifest input) t (id, base) × Any REVISION_MANIFEST_ROOT_DECLARE (IsOf revision_root input) t roots × Any REVISION_MANIFEST_OBJECT_GROUP_REFERENCES (IsOf group_reference input) t groups
SaysBody input t kind (Group objects) = (kind ≡ 5) × SaysGroup input t objects
SaysBody input t kind (Blob bytes) = (kind ≡ 10) × One OBJECT_DATA_BLOB (BlobContent input) t bytes

-- an element with its serial number
abbrev pub IsElementWith : List ℕ → Tree → Serial → Element → Type 0
IsElementWith input t serial e = (kind : ℕ) × ElementFields input t e.id serial kind × SaysBody input t kind e.body

-- 01, an element, whatever its serial number is
abbrev pub IsElement : List ℕ → Tree → Element → Type 0
IsElement input t e = (serial : Serial) × IsElementWith input t serial e

-- 15, a package: any number of elements
abbrev pub IsPackage : List ℕ → Tree → List Element → Type 0
IsPackage input t elements = PackageFields input t × Any DATA_ELEMENT (IsElement input) t elements
