-- Reading GUIDs and what is named by them, from left to right.
use Rattle.std.specs.Prelude.{ℕ, ◌%◌, List, [], ◌∷◌, ◌==◌, nat_lt, length, take, Option, Some, None, if◌then◌else◌}
use Rattle.compact_values.specs.Both.{read_both}
use Rattle.compact_values.specs.GuidBytes.{guid_number}
use Rattle.compact_values.specs.Reading.{Reading, Value, Cut, Malformed, number_of, in_form}
use Rattle.compact_values.specs.declared.form.Form.{Form}
use Rattle.compact_values.specs.declared.guid.Guid.{Guid}
use Rattle.compact_values.specs.declared.ids.ExGuid.{ExGuid}
use Rattle.compact_values.specs.declared.ids.ExGuid.TheVariants as exguids
use Rattle.compact_values.specs.declared.ids.Serial.{Serial}
use Rattle.compact_values.specs.declared.ids.Serial.TheVariants as serials

-- what was read, as a value of another type
abbrev pub read_as : {A B : Type 0} → (A → B) → Reading A → Reading B
read_as to (Value a used) = Value (to a) used
read_as to Cut = Cut
read_as to Malformed = Malformed

-- null, which is the byte 0, or what else is read
unfoldable pub null_or : {A : Type 0} → (List ℕ → Reading A) → List ℕ → Reading (Option A)
null_or read [] = Cut
null_or read (b ∷ bytes) = if b == 0 then Value None 1 else read_as Some (read (b ∷ bytes))

unfoldable pub guid_at : List ℕ → Reading Guid
guid_at bytes = if nat_lt (length bytes) 16 then Cut else Value (record { number = guid_number (take 16 bytes) }) 16

-- a number in 8 bytes, the least first
unfoldable pub long_at : List ℕ → Reading ℕ
long_at bytes = if nat_lt (length bytes) 8 then Cut else Value (number_of (take 8 bytes)) 8

-- the form of an extended GUID's number, by the low bits of the first byte
unfoldable pub exguid_form : ℕ → Option Form
exguid_form first =
    if first % 8 == 4 then Some (record { width = 1; shift = 3; least = 0 })
    else if first % 64 == 32 then Some (record { width = 2; shift = 6; least = 0x20 })
    else if first % 128 == 64 then Some (record { width = 3; shift = 7; least = 0x400 })
    else if first == 128 then Some (record { width = 5; shift = 8; least = 0x20000 })
    else None

abbrev pub in_some_form : Option Form → List ℕ → Reading ℕ
in_some_form (Some form) bytes = in_form form bytes
in_some_form None bytes = Malformed

unfoldable pub exguid_value_at : List ℕ → Reading ℕ
exguid_value_at [] = Cut
exguid_value_at (first ∷ others) = in_some_form (exguid_form first) (first ∷ others)

abbrev pub to_exguid : Option (ℕ × Guid) → ExGuid
to_exguid None = exguids.Null
to_exguid (Some x) = exguids.Id x.1 x.0

unfoldable pub exguid_at : List ℕ → Reading ExGuid
exguid_at bytes = read_as to_exguid (null_or (read_both exguid_value_at guid_at) bytes)

-- the byte in front of a serial number that isn't null
unfoldable pub mark_at : List ℕ → Reading (Unit {0})
mark_at [] = Cut
mark_at (b ∷ bytes) = if b == 128 then Value tt 1 else Malformed

abbrev pub to_serial : Option (Unit {0} × (Guid × ℕ)) → Serial
to_serial None = serials.Null
to_serial (Some x) = serials.Number x.1.0 x.1.1

unfoldable pub serial_at : List ℕ → Reading Serial
serial_at bytes = read_as to_serial (null_or (read_both mark_at (read_both guid_at long_at)) bytes)
