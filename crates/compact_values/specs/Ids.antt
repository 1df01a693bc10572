-- GUIDs and what is named by them: the spellings (MS-FSSHTTPB 2.2.1.7, 2.2.1.9 and 2.2.1.10).
use Rattle.std.specs.Prelude.{ℕ, ◌+◌, ◌*◌, ◌<◌, ◌^◌, List, [], ◌∷◌, ◌++◌, nat_le, if◌then◌else◌}
use Rattle.compact_values.specs.Compact.{little_endian}
use Rattle.compact_values.specs.GuidBytes.{guid_bytes}
use Rattle.compact_values.specs.Kinds.{SpellsBy}
use Rattle.compact_values.specs.declared.guid.Guid.{Guid}
use Rattle.compact_values.specs.declared.ids.ExGuid.{ExGuid}
use Rattle.compact_values.specs.declared.ids.ExGuid.TheVariants as exguids
use Rattle.compact_values.specs.declared.ids.Serial.{Serial}
use Rattle.compact_values.specs.declared.ids.Serial.TheVariants as serials
use Rattle.compact_values.specs.declared.ids.CellId.{CellId}

-- the bytes of a GUID
abbrev pub guid_spelling : Guid → List ℕ
guid_spelling guid = guid_bytes guid.number

-- the number of an extended GUID, in its field of 1, 2, 3 or 5 bytes
abbrev pub exguid_value : ℕ → List ℕ
exguid_value v =
    if nat_le v 0x1F then little_endian 1 (8 * v + 4)
    else if nat_le v 0x3FF then little_endian 2 (64 * v + 32)
    else if nat_le v 0x1FFFF then little_endian 3 (128 * v + 64)
    else 0x80 ∷ little_endian 4 v

abbrev pub exguid : ExGuid → List ℕ
exguid exguids.Null = 0 ∷ []
exguid (exguids.Id guid value) = exguid_value value ++ guid_bytes guid.number

abbrev pub serial : Serial → List ℕ
serial serials.Null = 0 ∷ []
serial (serials.Number guid value) = 0x80 ∷ guid_bytes guid.number ++ little_endian 8 value

abbrev pub cell_id : CellId → List ℕ
cell_id cell = exguid cell.first ++ exguid cell.second

-- The bytes are the number in 8 bytes, the least first.
abbrev pub SpellsLong : ℕ → List ℕ → Type 0
SpellsLong = SpellsBy (λ v. v < 2 ^ 64) (little_endian 8)

-- The numbers of the values are in the ranges of their fields.
abbrev pub FitsGuid : Guid → Type 0
FitsGuid guid = guid.number < 2 ^ 128

abbrev pub FitsExGuid : ExGuid → Type 0
FitsExGuid exguids.Null = Unit {0}
FitsExGuid (exguids.Id guid value) = FitsGuid guid × (value < 2 ^ 32)

abbrev pub FitsSerial : Serial → Type 0
FitsSerial serials.Null = Unit {0}
FitsSerial (serials.Number guid value) = FitsGuid guid × (value < 2 ^ 64)

abbrev pub FitsCellId : CellId → Type 0
FitsCellId cell = FitsExGuid cell.first × FitsExGuid cell.second

-- The bytes are the spelling of the value.
abbrev pub SpellsGuid : Guid → List ℕ → Type 0
SpellsGuid = SpellsBy FitsGuid guid_spelling

abbrev pub SpellsExGuid : ExGuid → List ℕ → Type 0
SpellsExGuid = SpellsBy FitsExGuid exguid

abbrev pub SpellsSerial : Serial → List ℕ → Type 0
SpellsSerial = SpellsBy FitsSerial serial

abbrev pub SpellsCellId : CellId → List ℕ → Type 0
SpellsCellId = SpellsBy FitsCellId cell_id
