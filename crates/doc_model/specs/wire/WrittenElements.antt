-- The one written form of data elements, of a package of them and of knowledge: a line an object type (MS-FSSHTTPB 2.2.1.12 and
-- 2.2.1.13). Types are hexadecimal, kinds of elements decimal.
use Rattle.std.specs.Prelude.{ℕ, List, [], ◌∷◌, ◌++◌, ◌==◌, length, if◌then◌else◌}
use Rattle.std.specs.List.{flat_map}
use Rattle.compact_values.specs.Compact.{compact}
use Rattle.compact_values.specs.GuidBytes.{guid_bytes}
use Rattle.compact_values.specs.Ids.{guid_spelling, exguid, serial, cell_id}
use Rattle.compact_values.specs.Items.{item, array}
use Rattle.compact_values.specs.declared.guid.Guid.{Guid}
use Rattle.compact_values.specs.declared.ids.Serial.{Serial}
use Rattle.compact_values.specs.declared.ids.Serial.TheVariants.{Number}
use Rattle.stream_objects.specs.Written.{simple_object, compound_object}
use Rattle.stream_objects.specs.declared.object_types.TheConstants.{CELL_KNOWLEDGE, CELL_KNOWLEDGE_RANGE, DATA_ELEMENT, DATA_ELEMENT_PACKAGE, KNOWLEDGE, OBJECT_DATA_BLOB, OBJECT_GROUP_DATA, OBJECT_GROUP_DECLARATIONS, OBJECT_GROUP_OBJECT_BLOB_DATA_DECLARATION, OBJECT_GROUP_OBJECT_DATA, OBJECT_GROUP_OBJECT_DATA_BLOB_REFERENCE, OBJECT_GROUP_OBJECT_DECLARE, SPECIALIZED_KNOWLEDGE}
use Rattle.doc_model.specs.wire.Knowledges.{cell_knowledge}
use Rattle.doc_model.specs.declared.element.Object.{Object}
use Rattle.doc_model.specs.declared.element.Content.{Content}
use Rattle.doc_model.specs.declared.element.Content.TheVariants.{Inline, Apart}
use Rattle.doc_model.specs.declared.element.Body.{Body}
use Rattle.doc_model.specs.declared.element.Body.TheVariants.{Index, Storage, Cell, Revision, Group, Blob}
use Rattle.doc_model.specs.declared.element.Element.{Element}
use Rattle.doc_model.specs.declared.element.NumberedElement.{NumberedElement}
use Rattle.doc_model.specs.declared.knowledge.Range.{Range}
use Rattle.doc_model.specs.declared.knowledge.Knowledge.{Knowledge}
use Rattle.wire_kinds.specs.Row.{row_bytes}
use Rattle.doc_model.specs.wire.ElementRows.{manifest_mapping, cell_mapping, revision_mapping, schema_guid, manifest_root, current_revision, revision_manifest, revision_root, group_reference}

-- ---- 1, storage index (2.2.1.12.2)

-- ---- 2, storage manifest (2.2.1.12.3)

-- ---- 3, cell manifest (2.2.1.12.4)

-- ---- 4, revision manifest (2.2.1.12.5)

-- ---- 5, object group (2.2.1.12.6)

-- the size of a 05, which is left out where it is 0
abbrev pub size_if_any : ℕ → List ℕ
size_if_any size = if size == 0 then [] else compact size

-- 18, object declaration: extended GUID object, compact partition, compact size, compact references, compact cell references.
-- 05, blob declaration: extended GUID object, extended GUID blob, compact partition, compact size or nothing, compact references,
-- compact cell references. The reference counts are the lengths of the lists.
abbrev pub declaration_kind : Content → ℕ
declaration_kind (Inline bytes) = OBJECT_GROUP_OBJECT_DECLARE
declaration_kind (Apart blob) = OBJECT_GROUP_OBJECT_BLOB_DATA_DECLARATION

abbrev pub declaration_fields : Object → Content → List ℕ
declaration_fields o (Inline bytes) = exguid o.id ++ compact o.partition ++ compact o.size ++ compact (length o.references) ++ compact (length o.cells)
declaration_fields o (Apart blob) = exguid o.id ++ exguid blob ++ compact o.partition ++ size_if_any o.size ++ compact (length o.references) ++ compact (length o.cells)

unfoldable pub declaration_bytes : Object → List ℕ
declaration_bytes o = simple_object (declaration_kind o.content) (declaration_fields o o.content)

-- 16, object data: array of extended GUIDs, array of cell ids, binary item.
-- 1C, blob reference: array of extended GUIDs, array of cell ids, extended GUID blob.
abbrev pub data_kind : Content → ℕ
data_kind (Inline bytes) = OBJECT_GROUP_OBJECT_DATA
data_kind (Apart blob) = OBJECT_GROUP_OBJECT_DATA_BLOB_REFERENCE

abbrev pub data_fields : Object → Content → List ℕ
data_fields o (Inline bytes) = array exguid o.references ++ array cell_id o.cells ++ item bytes
data_fields o (Apart blob) = array exguid o.references ++ array cell_id o.cells ++ exguid blob

unfoldable pub data_bytes : Object → List ℕ
data_bytes o = simple_object (data_kind o.content) (data_fields o o.content)

-- 1D, declarations, compound: no fields. 1E, group data, compound: no fields.
unfoldable pub declarations_bytes : List Object → List ℕ
declarations_bytes objects = compound_object OBJECT_GROUP_DECLARATIONS [] (flat_map declaration_bytes objects)

unfoldable pub datas_bytes : List Object → List ℕ
datas_bytes objects = compound_object OBJECT_GROUP_DATA [] (flat_map data_bytes objects)

-- ---- 10, object data blob (2.2.1.12.8)

-- 02, blob content: binary item
unfoldable pub blob_bytes : List ℕ → List ℕ
blob_bytes bytes = simple_object OBJECT_DATA_BLOB (item bytes)

-- ---- elements

abbrev pub kind_number : Body → ℕ
kind_number (Index manifests cells revisions) = 1
kind_number (Storage schema roots) = 2
kind_number (Cell current) = 3
kind_number (Revision id base roots groups) = 4
kind_number (Group objects) = 5
kind_number (Blob bytes) = 10

-- the children of an element, in the order in which they are written
unfoldable pub body_bytes : Body → List ℕ
body_bytes (Index manifests cells revisions) = flat_map (row_bytes manifest_mapping) manifests ++ flat_map (row_bytes cell_mapping) cells ++ flat_map (row_bytes revision_mapping) revisions
body_bytes (Storage schema roots) = row_bytes schema_guid schema ++ flat_map (row_bytes manifest_root) roots
body_bytes (Cell current) = row_bytes current_revision current
body_bytes (Revision id base roots groups) = row_bytes revision_manifest (id, base) ++ flat_map (row_bytes revision_root) roots ++ flat_map (row_bytes group_reference) groups
body_bytes (Group objects) = declarations_bytes objects ++ datas_bytes objects
body_bytes (Blob bytes) = blob_bytes bytes

-- 01, data element, compound: extended GUID id, serial number, compact kind
unfoldable pub element_bytes : Element → Serial → List ℕ
element_bytes e s = compound_object DATA_ELEMENT (exguid e.id ++ serial s ++ compact (kind_number e.body)) (body_bytes e.body)

-- an element with its number, of a document's GUID
unfoldable pub numbered_bytes : Guid → NumberedElement → List ℕ
numbered_bytes guid n = element_bytes n.element (Number guid n.serial)

-- 15, data element package, compound: the byte 0
unfoldable pub package_bytes : Guid → List NumberedElement → List ℕ
package_bytes guid elements = compound_object DATA_ELEMENT_PACKAGE (0 ∷ []) (flat_map (numbered_bytes guid) elements)

-- ---- knowledge (2.2.1.13)

-- 0F, cell knowledge range: 16 bytes GUID, compact from, compact to
unfoldable pub range_bytes : Range → List ℕ
range_bytes r = simple_object CELL_KNOWLEDGE_RANGE (guid_spelling r.guid ++ compact r.from ++ compact r.to)

-- 14, cell knowledge, compound: no fields
unfoldable pub ranges_bytes : List Range → List ℕ
ranges_bytes ranges = compound_object CELL_KNOWLEDGE [] (flat_map range_bytes ranges)

-- 44, specialized knowledge, compound: the GUID of cell knowledge
unfoldable pub cell_knowledge_bytes : List Range → List ℕ
cell_knowledge_bytes ranges = compound_object SPECIALIZED_KNOWLEDGE (guid_bytes cell_knowledge) (ranges_bytes ranges)

-- 10, knowledge, compound: no fields. The two objects in it are there even where there is no range.
unfoldable pub knowledge_bytes : Knowledge → List ℕ
knowledge_bytes k = compound_object KNOWLEDGE [] (cell_knowledge_bytes k.ranges)
