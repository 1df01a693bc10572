-- Reading the fields of the objects that data elements consist of, where the objects are in form.
use Rattle.std.specs.Prelude.{ℕ, Bool, true, false, List, [], ◌∷◌, Option, Some, None, option_and_then, option_map, is_some, if◌then◌else◌}
use Rattle.compact_values.specs.declared.guid.Guid.{Guid}
use Rattle.compact_values.specs.declared.ids.ExGuid.{ExGuid}
use Rattle.compact_values.specs.declared.ids.Serial.{Serial}
use Rattle.compact_values.specs.declared.ids.CellId.{CellId}
use Rattle.compact_values.specs.Taking.{take_compact, take_byte, take_guid, take_exguid, take_serial, take_cell_id, take_item, take_ids, take_cells, take_both, if_all}
use Rattle.wire_kinds.specs.Row.{row_at}
use Rattle.doc_model.specs.readers.ElementCodes.{manifest_code, cell_code, revision_code, root_code, revision_root_code}
use Rattle.stream_objects.specs.declared.tree.Tree.{Tree}
use Rattle.stream_objects.specs.Objects.{is_kind}
use Rattle.stream_objects.specs.ObjectFields.{simple_fields, compound_fields}
use Rattle.stream_objects.specs.declared.object_types.TheConstants.{CELL_MANIFEST_CURRENT_REVISION, OBJECT_DATA_BLOB, OBJECT_GROUP_DATA, OBJECT_GROUP_DECLARATIONS, OBJECT_GROUP_OBJECT_BLOB_DATA_DECLARATION, OBJECT_GROUP_OBJECT_DATA, OBJECT_GROUP_OBJECT_DATA_BLOB_REFERENCE, OBJECT_GROUP_OBJECT_DECLARE, REVISION_MANIFEST, REVISION_MANIFEST_OBJECT_GROUP_REFERENCES, REVISION_MANIFEST_ROOT_DECLARE, STORAGE_INDEX_CELL_MAPPING, STORAGE_INDEX_MANIFEST_MAPPING, STORAGE_INDEX_REVISION_MAPPING, STORAGE_MANIFEST_ROOT_DECLARE, STORAGE_MANIFEST_SCHEMA_GUID}

-- the value that the fields of a simple object are
abbrev pub simple_row : {V : Type 0} → (List ℕ → Option (V × List ℕ)) → List ℕ → Tree → Option V
simple_row get input t = option_and_then (λ b. if_all (get b)) (simple_fields input t)

-- the value that the fields of a compound object are
abbrev pub compound_row : {V : Type 0} → (List ℕ → Option (V × List ℕ)) → List ℕ → Tree → Option V
compound_row get input t = option_and_then (λ b. if_all (get b)) (compound_fields input t)

abbrev pub is_nothing : List ℕ → Bool
is_nothing [] = true
is_nothing (b ∷ bytes) = false

abbrev pub if_nothing : Option (List ℕ) → Bool
if_nothing (Some bytes) = is_nothing bytes
if_nothing None = false

-- whether it is a compound object without fields
abbrev pub has_no_fields : List ℕ → Tree → Bool
has_no_fields input t = if_nothing (compound_fields input t)

abbrev pub package_row : List ℕ → Tree → Option ℕ
package_row = compound_row take_byte

-- ---- the children of elements

unfoldable pub blob_row : List ℕ → Tree → Option (List ℕ)
blob_row input t = simple_row take_item input t

-- whether the fields of a child are those of its type
unfoldable pub child_ok : List ℕ → Tree → Bool
child_ok input t =
    if is_kind OBJECT_DATA_BLOB t then is_some (blob_row input t)
    else if is_kind STORAGE_MANIFEST_ROOT_DECLARE t then is_some (row_at root_code.take input t)
    else if is_kind REVISION_MANIFEST_ROOT_DECLARE t then is_some (row_at revision_root_code.take input t)
    else if is_kind CELL_MANIFEST_CURRENT_REVISION t then is_some (row_at take_exguid input t)
    else if is_kind STORAGE_MANIFEST_SCHEMA_GUID t then is_some (row_at take_guid input t)
    else if is_kind STORAGE_INDEX_REVISION_MAPPING t then is_some (row_at revision_code.take input t)
    else if is_kind STORAGE_INDEX_CELL_MAPPING t then is_some (row_at cell_code.take input t)
    else if is_kind STORAGE_INDEX_MANIFEST_MAPPING t then is_some (row_at manifest_code.take input t)
    else if is_kind REVISION_MANIFEST_OBJECT_GROUP_REFERENCES t then is_some (row_at take_exguid input t)
    else if is_kind REVISION_MANIFEST t then is_some (row_at (take_both take_exguid take_exguid) input t)
    else if is_kind OBJECT_GROUP_DECLARATIONS t then has_no_fields input t
    else if is_kind OBJECT_GROUP_DATA t then has_no_fields input t
    else true

-- ---- what the halves of a group hold

-- a declaration of an object with its data: id, partition and size, and the two counts
abbrev pub take_declaration : List ℕ → Option ((ExGuid × (ℕ × (ℕ × (ℕ × ℕ)))) × List ℕ)
take_declaration = take_both take_exguid (take_both take_compact (take_both take_compact (take_both take_compact take_compact)))

abbrev pub without_counts : ExGuid × (ℕ × (ℕ × (ℕ × ℕ))) → ExGuid × (ℕ × ℕ)
without_counts x = (x.0, (x.1.0, x.1.1.0))

unfoldable pub declaration_row : List ℕ → Tree → Option (ExGuid × (ℕ × ℕ))
declaration_row input t = option_map without_counts (simple_row take_declaration input t)

-- a declaration of an object with a blob: three compact integers behind the ids, or four
abbrev pub take_three : List ℕ → Option ((ExGuid × (ExGuid × (ℕ × (ℕ × ℕ)))) × List ℕ)
take_three = take_both take_exguid (take_both take_exguid (take_both take_compact (take_both take_compact take_compact)))

abbrev pub take_four : List ℕ → Option ((ExGuid × (ExGuid × (ℕ × (ℕ × (ℕ × ℕ))))) × List ℕ)
take_four = take_both take_exguid (take_both take_exguid (take_both take_compact (take_both take_compact (take_both take_compact take_compact))))

-- id, blob, partition and size
abbrev pub Declared : Type 0
Declared = ExGuid × (ExGuid × (ℕ × ℕ))

abbrev pub from_three : Option (ExGuid × (ExGuid × (ℕ × (ℕ × ℕ)))) → Option Declared
from_three (Some x) = Some (x.0, (x.1.0, (x.1.1.0, 0)))
from_three None = None

abbrev pub from_four : Option (ExGuid × (ExGuid × (ℕ × (ℕ × (ℕ × ℕ))))) → Option Declared → Option Declared
from_four (Some x) other = Some (x.0, (x.1.0, (x.1.1.0, x.1.1.1.0)))
from_four None other = other

unfoldable pub declared_row : List ℕ → Tree → Option Declared
declared_row input t = from_four (simple_row take_four input t) (from_three (simple_row take_three input t))

unfoldable pub data_row : List ℕ → Tree → Option (List ExGuid × (List CellId × List ℕ))
data_row input t = simple_row (take_both take_ids (take_both take_cells take_item)) input t

unfoldable pub reference_row : List ℕ → Tree → Option (List ExGuid × (List CellId × ExGuid))
reference_row input t = simple_row (take_both take_ids (take_both take_cells take_exguid)) input t

-- whether the fields of a declaration or of data are those of its type
unfoldable pub member_ok : List ℕ → Tree → Bool
member_ok input t =
    if is_kind OBJECT_GROUP_OBJECT_BLOB_DATA_DECLARATION t then is_some (declared_row input t)
    else if is_kind OBJECT_GROUP_OBJECT_DATA t then is_some (data_row input t)
    else if is_kind OBJECT_GROUP_OBJECT_DECLARE t then is_some (declaration_row input t)
    else if is_kind OBJECT_GROUP_OBJECT_DATA_BLOB_REFERENCE t then is_some (reference_row input t)
    else true
