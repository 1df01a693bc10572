-- What a text says as a GUID.
use Rattle.std.specs.Prelude.{ℕ, List}
use Rattle.std.specs.declared.option.Option.{Option}
use Rattle.std.specs.Option.{option_map}
use Rattle.std.specs.Int.{w128, to_be_bytes, from_be_bytes}
use Rattle.uuid.specs.Text.{lower, hyphenated_text, parsed}
use Rattle.compact_values.specs.declared.guid.Guid.{Guid}

-- the GUID whose text has these sixteen bytes, in order
abbrev pub guid_of_text_bytes : List ℕ → Guid
guid_of_text_bytes bytes = record { number = from_be_bytes w128 bytes }

-- the GUID that a text spells, in any form that `uuid` reads
abbrev pub guid_in_text : List ℕ → Option Guid
guid_in_text text = option_map guid_of_text_bytes (parsed text)

-- the text of a GUID: 36 characters, with hyphens and lower-case digits
abbrev pub text_of_guid : Guid → List ℕ
text_of_guid guid = hyphenated_text lower (to_be_bytes w128 guid.number)
