-- The regular objects that data elements consist of: a line an object type, with its fields, which fill the object exactly
-- (MS-FSSHTTPB 2.2.1.12).
use Rattle.compact_values.specs.declared.guid.Guid.{Guid}
use Rattle.compact_values.specs.declared.ids.ExGuid.{ExGuid}
use Rattle.stream_objects.specs.declared.object_types.TheConstants.{CELL_MANIFEST_CURRENT_REVISION, REVISION_MANIFEST, REVISION_MANIFEST_OBJECT_GROUP_REFERENCES, REVISION_MANIFEST_ROOT_DECLARE, STORAGE_INDEX_CELL_MAPPING, STORAGE_INDEX_MANIFEST_MAPPING, STORAGE_INDEX_REVISION_MAPPING, STORAGE_MANIFEST_ROOT_DECLARE, STORAGE_MANIFEST_SCHEMA_GUID}
use Rattle.wire_kinds.specs.Kind.{◌▹◌, guid, exguid, serial, cell_id}
use Rattle.wire_kinds.specs.Row.{Row, row, simple}
use Rattle.doc_model.specs.declared.element.ManifestMap.{ManifestMap}
use Rattle.doc_model.specs.declared.element.CellMap.{CellMap}
use Rattle.doc_model.specs.declared.element.RevisionMap.{RevisionMap}
use Rattle.doc_model.specs.declared.element.Root.{Root}
use Rattle.doc_model.specs.declared.element.RevisionRoot.{RevisionRoot}

-- ---- storage index (2.2.1.12.2)

-- manifest mapping: extended GUID target, serial number
abbrev pub manifest_mapping : Row ManifestMap
manifest_mapping = simple STORAGE_INDEX_MANIFEST_MAPPING (exguid ▹ serial) (λ m. (m.target, m.serial))

-- cell mapping: cell id, extended GUID target, serial number
abbrev pub cell_mapping : Row CellMap
cell_mapping = simple STORAGE_INDEX_CELL_MAPPING (cell_id ▹ exguid ▹ serial) (λ m. (m.cell, (m.target, m.serial)))

-- revision mapping: extended GUID revision, extended GUID target, serial number
abbrev pub revision_mapping : Row RevisionMap
revision_mapping = simple STORAGE_INDEX_REVISION_MAPPING (exguid ▹ exguid ▹ serial) (λ m. (m.revision, (m.target, m.serial)))

-- ---- storage manifest (2.2.1.12.3)

-- schema GUID: 16 bytes
abbrev pub schema_guid : Row Guid
schema_guid = row STORAGE_MANIFEST_SCHEMA_GUID guid

-- manifest root: extended GUID root, cell id
abbrev pub manifest_root : Row Root
manifest_root = simple STORAGE_MANIFEST_ROOT_DECLARE (exguid ▹ cell_id) (λ r. (r.root, r.cell))

-- ---- cell manifest (2.2.1.12.4)

-- current revision: extended GUID
abbrev pub current_revision : Row ExGuid
current_revision = row CELL_MANIFEST_CURRENT_REVISION exguid

-- ---- revision manifest (2.2.1.12.5)

-- revision manifest: extended GUID revision, extended GUID base
abbrev pub revision_manifest : Row (ExGuid × ExGuid)
revision_manifest = row REVISION_MANIFEST (exguid ▹ exguid)

-- revision root: extended GUID root, extended GUID object
abbrev pub revision_root : Row RevisionRoot
revision_root = simple REVISION_MANIFEST_ROOT_DECLARE (exguid ▹ exguid) (λ r. (r.root, r.object))

-- group reference: extended GUID
abbrev pub group_reference : Row ExGuid
group_reference = row REVISION_MANIFEST_OBJECT_GROUP_REFERENCES exguid
