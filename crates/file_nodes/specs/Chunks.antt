-- A file as data elements (MS-FSSHTTPB 2.2.1.12, MS-FSSHTTPD 2.2): one storage with one cell, whose one revision has the file's objects.
use Rattle.std.specs.Prelude.{ℕ, ◌+◌, List, [], ◌∷◌, length}
use Rattle.compact_values.specs.declared.guid.Guid.{Guid}
use Rattle.compact_values.specs.declared.ids.ExGuid.{ExGuid}
use Rattle.compact_values.specs.declared.ids.ExGuid.TheVariants as exguids
use Rattle.compact_values.specs.declared.ids.Serial.TheVariants as serials
use Rattle.compact_values.specs.declared.ids.CellId.{CellId}
use Rattle.doc_model.specs.declared.element.Element.{Element}
use Rattle.doc_model.specs.declared.element.Object.{Object}
use Rattle.doc_model.specs.declared.element.Body.{Body}
use Rattle.doc_model.specs.declared.element.Body.TheVariants.{Index, Storage, Cell, Revision, Group}
use Rattle.file_nodes.specs.Chunking.{file_objects}
use Rattle.file_nodes.specs.declared.chunking.Chunked.{Chunked}

-- the schema of the storage
abbrev pub schema : Guid
schema = record { number = 0x0eb93394571d41e9aad3880d92d31955 }

-- the root of the storage
abbrev pub storage_root : ExGuid
storage_root = exguids.Id (record { number = 0x84defab9aaa34a0da3a8520c77ac7073 }) 2

-- its cell
abbrev pub root_cell : CellId
root_cell = record {
  first = exguids.Id (record { number = 0x84defab9aaa34a0da3a8520c77ac7073 }) 1;
  second = exguids.Id (record { number = 0x6f2a466542c846c7bab4e28fdce1e32b }) 1;
}

-- the root of the revision
abbrev pub revision_root : ExGuid
revision_root = exguids.Id (record { number = 0x4a3717f81c1449e7952681d942de1741 }) 1

-- The ids, with consecutive values: storage index, storage manifest, cell manifest, revision manifest, object group, revision and root
-- object. The other objects follow.
abbrev pub id_of : Guid → ℕ → ExGuid
id_of guid value = exguids.Id guid value

-- what the storage index says: where the storage manifest, the cell manifest and the revision manifest are
abbrev pub index_body : Guid → ℕ → Body
index_body guid first =
    Index (record { target = id_of guid (first + 1); serial = serials.Null } ∷ [])
    (record { cell = root_cell; target = id_of guid (first + 2); serial = serials.Null } ∷ [])
    (record { revision = id_of guid (first + 5); target = id_of guid (first + 3); serial = serials.Null } ∷ [])

-- the storage manifest: one root with its cell
abbrev pub storage_body : Body
storage_body = Storage schema (record { root = storage_root; cell = root_cell } ∷ [])

-- the cell manifest: the revision
abbrev pub cell_body : Guid → ℕ → Body
cell_body guid first = Cell (id_of guid (first + 5))

-- the revision manifest: no base, one root with the root object, and one group
abbrev pub revision_body : Guid → ℕ → Body
revision_body guid first =
    Revision (id_of guid (first + 5)) exguids.Null (record { root = revision_root; object = id_of guid (first + 6) } ∷ []) (id_of guid (first + 4) ∷ [])

-- the elements round these objects, in order of their ids
abbrev pub elements_round : List Object → Guid → ℕ → List Element
elements_round objects guid first =
    record { id = id_of guid first; body = index_body guid first }
    ∷ record { id = id_of guid (first + 1); body = storage_body }
    ∷ record { id = id_of guid (first + 2); body = cell_body guid first }
    ∷ record { id = id_of guid (first + 3); body = revision_body guid first }
    ∷ record { id = id_of guid (first + 4); body = Group objects } ∷ []

-- a file in elements, with ids from `first` on: six beside those of its objects
abbrev pub chunked : List ℕ → Guid → ℕ → Chunked
chunked bytes guid first =
    let objects = file_objects bytes guid (first + 6) in
    record { index = id_of guid first; elements = elements_round objects guid first; used = 6 + length objects }
