-- What stands behind a piece at the front of bytes, and the pieces before the bytes of objects and blobs.
use Rattle.std.specs.Prelude.{◌≡◌, ◌≢◌, ℕ, true, false, List, ◌++◌, length, Option, Some, None}
use Rattle.compact_values.specs.Compact.{compact}
use Rattle.compact_values.specs.Ids.{exguid, serial, cell_id}
use Rattle.compact_values.specs.Items.{item, array}
use Rattle.compact_values.specs.declared.ids.ExGuid.{ExGuid}
use Rattle.compact_values.specs.declared.ids.Serial.TheVariants.{Null}
use Rattle.stream_objects.specs.Headers.{written_start}
use Rattle.stream_objects.specs.Written.{started}
use Rattle.doc_model.specs.wire.WrittenElements.{data_fields}
use Rattle.doc_model.specs.declared.element.Content.TheVariants.{Inline}
use Rattle.doc_model.specs.declared.element.Object.{Object}

-- This is behind the piece, or the bytes don't begin with it.
abbrev pub IsBehind : List ℕ → List ℕ → Option (List ℕ) → Type 0
IsBehind piece bytes (Some rest) = bytes ≡ piece ++ rest
IsBehind piece bytes None = (rest : List ℕ) → bytes ≢ piece ++ rest

-- the start of an element of a kind, and its fields, with a null serial number
unfoldable pub element_head : ExGuid → ℕ → List ℕ
element_head id kind = started 0x01 true (exguid id ++ serial Null ++ compact kind)

-- the data of an object up to its bytes
unfoldable pub data_front : Object → List ℕ → List ℕ
data_front o bytes = written_start 0x16 false (length (data_fields o (Inline bytes))) ++ (array exguid o.references ++ array cell_id o.cells ++ compact (length bytes))

-- the element of a blob up to its bytes
unfoldable pub blob_front : ExGuid → List ℕ → List ℕ
blob_front id bytes = element_head id 10 ++ (written_start 0x02 false (length (item bytes)) ++ compact (length bytes))
