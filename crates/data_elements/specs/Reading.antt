-- Reading elements: what they say, or where the fields of the first object start that isn't in its form.
use Rattle.std.specs.Prelude.{ℕ, List, [], ◌∷◌, ◌++◌, ◌==◌, is_some, Option, Some, None, Result, Ok, Err, if◌then◌else◌}
use Rattle.compact_values.specs.declared.ids.ExGuid.{ExGuid}
use Rattle.compact_values.specs.declared.ids.Serial.{Serial}
use Rattle.compact_values.specs.Taking.{take_guid, take_exguid, take_both}
use Rattle.wire_kinds.specs.Row.{row_at}
use Rattle.doc_model.specs.readers.ElementCodes.{manifest_code, cell_code, revision_code, root_code, revision_root_code}
use Rattle.stream_objects.specs.declared.tree.Tree.{Tree}
use Rattle.stream_objects.specs.declared.tree.Tree.TheViews.{out-Tree}
use Rattle.stream_objects.specs.Objects.{start_of, children_of}
use Rattle.stream_objects.specs.ObjectFields.{single}
use Rattle.stream_objects.specs.Gathering.{and_then}
use Rattle.stream_objects.specs.declared.object_types.TheConstants.{CELL_MANIFEST_CURRENT_REVISION, DATA_ELEMENT, OBJECT_DATA_BLOB, REVISION_MANIFEST, REVISION_MANIFEST_OBJECT_GROUP_REFERENCES, REVISION_MANIFEST_ROOT_DECLARE, STORAGE_INDEX_CELL_MAPPING, STORAGE_INDEX_MANIFEST_MAPPING, STORAGE_INDEX_REVISION_MAPPING, STORAGE_MANIFEST_ROOT_DECLARE, STORAGE_MANIFEST_SCHEMA_GUID}
use Rattle.doc_model.specs.readers.ElementSites.{element_row}
use Rattle.doc_model.specs.declared.element.Element.{Element}
use Rattle.doc_model.specs.declared.element.Body.{Body}
use Rattle.doc_model.specs.declared.element.Body.TheVariants.{Index, Storage, Cell, Revision, Blob}
use Rattle.data_elements.specs.Rows.{package_row, blob_row}
use Rattle.data_elements.specs.Checking.{check_at, unless_broken, collect, only}
use Rattle.data_elements.specs.GroupReading.{group_at}

unfoldable pub index_at : List ℕ → Tree → Result Body ℕ
index_at input t =
    unless_broken (check_at input 1 (out-Tree t).children)
    (and_then (collect STORAGE_INDEX_MANIFEST_MAPPING (row_at manifest_code.take) input t) (λ m. and_then (collect STORAGE_INDEX_CELL_MAPPING (row_at cell_code.take) input t) (λ c. and_then (collect STORAGE_INDEX_REVISION_MAPPING (row_at revision_code.take) input t) (λ r. Ok (Index m c r)))))

unfoldable pub storage_at : List ℕ → Tree → Result Body ℕ
storage_at input t =
    if is_some (single (children_of STORAGE_MANIFEST_SCHEMA_GUID t)) then
    unless_broken (check_at input 2 (out-Tree t).children)
    (and_then (only STORAGE_MANIFEST_SCHEMA_GUID (row_at take_guid) input t) (λ s. and_then (collect STORAGE_MANIFEST_ROOT_DECLARE (row_at root_code.take) input t) (λ r. Ok (Storage s r))))
    else Err (start_of t)

unfoldable pub cell_at : List ℕ → Tree → Result Body ℕ
cell_at input t =
    if is_some (single (children_of CELL_MANIFEST_CURRENT_REVISION t)) then
    unless_broken (check_at input 3 (out-Tree t).children) (and_then (only CELL_MANIFEST_CURRENT_REVISION (row_at take_exguid) input t) (λ c. Ok (Cell c)))
    else Err (start_of t)

unfoldable pub revision_at : List ℕ → Tree → Result Body ℕ
revision_at input t =
    if is_some (single (children_of REVISION_MANIFEST t)) then
    unless_broken (check_at input 4 (out-Tree t).children)
    (and_then (only REVISION_MANIFEST (row_at (take_both take_exguid take_exguid)) input t) (λ h. and_then (collect REVISION_MANIFEST_ROOT_DECLARE (row_at revision_root_code.take) input t) (λ r. and_then (collect REVISION_MANIFEST_OBJECT_GROUP_REFERENCES (row_at take_exguid) input t) (λ g. Ok (Revision h.0 h.1 r g)))))
    else Err (start_of t)

unfoldable pub blob_at : List ℕ → Tree → Result Body ℕ
blob_at input t =
    if is_some (single (children_of OBJECT_DATA_BLOB t)) then
    unless_broken (check_at input 10 (out-Tree t).children) (and_then (only OBJECT_DATA_BLOB blob_row input t) (λ b. Ok (Blob b)))
    else Err (start_of t)

unfoldable pub body_at : List ℕ → ℕ → Tree → Result Body ℕ
body_at input kind t =
    if kind == 1 then index_at input t
    else if kind == 2 then storage_at input t
    else if kind == 3 then cell_at input t
    else if kind == 4 then revision_at input t
    else if kind == 5 then group_at input t
    else if kind == 10 then blob_at input t
    else Err (start_of t)

abbrev pub element_of : ExGuid → Result Body ℕ → Result Element ℕ
element_of id (Ok body) = Ok (record { id = id; body = body })
element_of id (Err place) = Err place

abbrev pub element_with : List ℕ → Tree → Option (ExGuid × (Serial × ℕ)) → Result Element ℕ
element_with input t (Some f) = element_of f.0 (body_at input f.1.1 t)
element_with input t None = Err (start_of t)

unfoldable pub element_at : List ℕ → Tree → Result Element ℕ
element_at input t = element_with input t (element_row input t)

abbrev pub elements_from : List ℕ → List Element → List Tree → Result (List Element) ℕ
elements_from input es [] = Ok es
elements_from input es (t ∷ ts) = and_then (element_at input t) (λ e. elements_from input (es ++ e ∷ []) ts)

abbrev pub package_with : List ℕ → Tree → Option ℕ → Result (List Element) ℕ
package_with input t (Some b) = elements_from input [] (children_of DATA_ELEMENT t)
package_with input t None = Err (start_of t)

unfoldable pub package_at : List ℕ → Tree → Result (List Element) ℕ
package_at input t = package_with input t (package_row input t)
