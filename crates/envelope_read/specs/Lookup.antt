-- The values of attributes, and what they write.
use Rattle.std.specs.Prelude.{ℕ, Bool, true, ◌&&◌, ◌||◌, ◌==◌, not, nat_lt, nat_le, List, [], ◌∷◌, length, codes, encode_utf8_all, if◌then◌else◌}
use Rattle.std.specs.declared.option.Option.{Option}
use Rattle.std.specs.declared.option.Option.TheVariants.{Some, None}
use Rattle.std.specs.List.{list_all}
use Rattle.std.specs.Char.{is_ascii_digit}
use Rattle.std.specs.Str.{bytes_eq, str_eq_ignore_ascii_case}
use Rattle.std.specs.Str.Parse.{digits_value}
use Rattle.compact_values.specs.GuidText.{guid_in_text}
use Rattle.compact_values.specs.declared.guid.Guid.{Guid}
use Rattle.doc_model.specs.rules.Limits.{day}
use Rattle.envelope_grammar.specs.Reading.{◌>>=◌}
use Rattle.envelope_grammar.specs.declared.tag.Name.{Name}
use Rattle.envelope_grammar.specs.declared.tag.Attribute.{Attribute}

-- the local name counts; names with the prefix xmlns are ignored
abbrev pub is_called : List ℕ → Name → Bool
is_called word name = bytes_eq name.local word && not (bytes_eq name.prefix (codes "xmlns"))

-- the value of the first attribute of this name
unfoldable pub value_of : List ℕ → List Attribute → Option (List ℕ)
value_of word [] = None
value_of word (a ∷ attributes) = if is_called word a.name then Some a.value else value_of word attributes

-- the UTF-8 of a value
abbrev pub bytes_or_none : Option (List ℕ) → List ℕ
bytes_or_none None = []
bytes_or_none (Some value) = encode_utf8_all value

abbrev pub bytes_of : List ℕ → List Attribute → List ℕ
bytes_of word attributes = bytes_or_none (value_of word attributes)

-- the value, empty where there is none
abbrev pub or_empty : Option (List ℕ) → List ℕ
or_empty None = []
or_empty (Some value) = value

abbrev pub text_of : List ℕ → List Attribute → List ℕ
text_of word attributes = or_empty (value_of word attributes)

-- ---- GUIDs

abbrev pub guid_in : List ℕ → Option Guid
guid_in value = guid_in_text (encode_utf8_all value)

unfoldable pub guid_at : List ℕ → List Attribute → Option Guid
guid_at word attributes = value_of word attributes >>= guid_in

abbrev pub first_of : Option (List ℕ) → Option (List ℕ) → Option (List ℕ)
first_of (Some value) other = Some value
first_of None other = other

-- the first of the attributes that carry a lock id
abbrev pub carried_value : List Attribute → Option (List ℕ)
carried_value attributes = first_of (value_of (codes "BypassLockID") attributes) (first_of (value_of (codes "ExclusiveLockID") attributes) (value_of (codes "SchemaLockID") attributes))

abbrev pub carried_from : Option (List ℕ) → Option (Option Guid)
carried_from None = Some None
carried_from (Some value) = guid_in value >>= λ guid. Some (Some guid)

-- the lock id that is carried, if one is; nothing where it is no GUID
unfoldable pub carried_at : List Attribute → Option (Option Guid)
carried_at attributes = carried_from (carried_value attributes)

abbrev pub is_zero : Guid → Bool
is_zero guid = guid.number == 0

abbrev pub content_from : Option (List ℕ) → Option Bool
content_from None = Some true
content_from (Some value) = guid_in value >>= λ guid. Some (is_zero guid)

-- whether the content partition is asked for: none is named, or the zero GUID; nothing where it is no GUID
unfoldable pub content_at : List Attribute → Option Bool
content_at attributes = content_from (value_of (codes "PartitionID") attributes)

-- ---- numbers and flags

-- 1 to 10 digits
abbrev pub is_number : List ℕ → Bool
is_number bytes = nat_lt 0 (length bytes) && nat_le (length bytes) 10 && list_all is_ascii_digit bytes

unfoldable pub number_in : List ℕ → Option ℕ
number_in bytes = if is_number bytes then Some (digits_value 10 bytes) else None

unfoldable pub number_at : List ℕ → List Attribute → Option ℕ
number_at word attributes = value_of word attributes >>= λ value. number_in (encode_utf8_all value)

-- seconds of a lock or an editor, where no Timeout is said; the least, and the most
abbrev pub usual_timeout : ℕ
usual_timeout = 3600

abbrev pub least_timeout : ℕ
least_timeout = 60

unfoldable pub clamped : ℕ → ℕ
clamped seconds = if nat_lt seconds least_timeout then least_timeout else if nat_lt day seconds then day else seconds

abbrev pub timeout_from : Option (List ℕ) → Option ℕ
timeout_from None = Some usual_timeout
timeout_from (Some value) = number_in (encode_utf8_all value) >>= λ seconds. Some (clamped seconds)

-- the Timeout, brought into its range; nothing where it is no number
unfoldable pub timeout_at : List Attribute → Option ℕ
timeout_at attributes = timeout_from (value_of (codes "Timeout") attributes)

abbrev pub is_true : List ℕ → Bool
is_true bytes = str_eq_ignore_ascii_case bytes (codes "true") || bytes_eq bytes (codes "1")

abbrev pub flag_at : List ℕ → List Attribute → Bool
flag_at word attributes = is_true (bytes_of word attributes)
