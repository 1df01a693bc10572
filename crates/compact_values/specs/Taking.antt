-- Taking values from the front of bytes, each with the bytes behind it.
use Rattle.std.specs.Prelude.{ℕ, List, [], ◌∷◌, drop, Option, Some, None}
use Rattle.compact_values.specs.IdReading.{guid_at, long_at, exguid_at, serial_at}
use Rattle.compact_values.specs.ItemReading.{item_at}
use Rattle.compact_values.specs.Placed.{joined, cell_id_at, ids_at, cells_at}
use Rattle.compact_values.specs.Reading.{Reading, Value, Cut, Malformed, compact_at}
use Rattle.compact_values.specs.declared.guid.Guid.{Guid}
use Rattle.compact_values.specs.declared.ids.ExGuid.{ExGuid}
use Rattle.compact_values.specs.declared.ids.Serial.{Serial}
use Rattle.compact_values.specs.declared.ids.CellId.{CellId}

-- what was read, and the bytes behind it
abbrev pub taken : {V : Type 0} → Reading V → List ℕ → Option (V × List ℕ)
taken (Value v used) bytes = Some (v, drop used bytes)
taken Cut bytes = None
taken Malformed bytes = None

-- ---- each kind of value

unfoldable pub take_byte : List ℕ → Option (ℕ × List ℕ)
take_byte [] = None
take_byte (b ∷ bytes) = Some (b, bytes)

unfoldable pub take_compact : List ℕ → Option (ℕ × List ℕ)
take_compact bytes = taken (compact_at bytes) bytes

unfoldable pub take_long : List ℕ → Option (ℕ × List ℕ)
take_long bytes = taken (long_at bytes) bytes

unfoldable pub take_guid : List ℕ → Option (Guid × List ℕ)
take_guid bytes = taken (guid_at bytes) bytes

unfoldable pub take_exguid : List ℕ → Option (ExGuid × List ℕ)
take_exguid bytes = taken (exguid_at bytes) bytes

unfoldable pub take_serial : List ℕ → Option (Serial × List ℕ)
take_serial bytes = taken (serial_at bytes) bytes

unfoldable pub take_cell_id : List ℕ → Option (CellId × List ℕ)
take_cell_id bytes = taken (joined (cell_id_at bytes)) bytes

unfoldable pub take_item : List ℕ → Option (List ℕ × List ℕ)
take_item bytes = taken (item_at bytes) bytes

unfoldable pub take_ids : List ℕ → Option (List ExGuid × List ℕ)
take_ids bytes = taken (joined (ids_at bytes)) bytes

unfoldable pub take_cells : List ℕ → Option (List CellId × List ℕ)
take_cells bytes = taken (joined (cells_at bytes)) bytes

-- ---- values in a row

abbrev pub with_first : {A B : Type 0} → A → Option (B × List ℕ) → Option ((A × B) × List ℕ)
with_first a (Some x) = Some ((a, x.0), x.1)
with_first a None = None

abbrev pub then_take : {A B : Type 0} → Option (A × List ℕ) → (List ℕ → Option (B × List ℕ)) → Option ((A × B) × List ℕ)
then_take (Some x) second = with_first x.0 (second x.1)
then_take None second = None

-- the first value and the second behind it
abbrev pub take_both : {A B : Type 0} → (List ℕ → Option (A × List ℕ)) → (List ℕ → Option (B × List ℕ)) → List ℕ → Option ((A × B) × List ℕ)
take_both first second bytes = then_take (first bytes) second

-- the value, where nothing is left behind it
abbrev pub if_all : {V : Type 0} → Option (V × List ℕ) → Option V
if_all (Some (v, [])) = Some v
if_all (Some (v, b ∷ bytes)) = None
if_all None = None

-- the value, whatever is left behind it
abbrev pub if_some : {V : Type 0} → Option (V × List ℕ) → Option V
if_some (Some x) = Some x.0
if_some None = None
