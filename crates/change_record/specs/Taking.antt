-- Taking values of the kinds that only changes have, and that each spelling is taken.
use Rattle.std.proofs.Common.{ℕ, Bool, true, false, List, Option, Some, None}
use Rattle.std.specs.Prelude.{◌==◌, if◌then◌else◌}
use Rattle.std.specs.Str.{chars, is_utf8}
use Rattle.compact_values.specs.Taking.{take_byte, take_guid, take_item}
use Rattle.compact_values.specs.declared.guid.Guid.{Guid}

-- a flag, by its byte
abbrev pub flag_of : ℕ → Option Bool
flag_of b = if b == 0 then Some false else if b == 1 then Some true else None

abbrev pub with_rest : {V : Type 0} → Option V → List ℕ → Option (V × List ℕ)
with_rest (Some v) rest = Some (v, rest)
with_rest None rest = None

abbrev pub flag_first : Option (ℕ × List ℕ) → Option (Bool × List ℕ)
flag_first (Some x) = with_rest (flag_of x.0) x.1
flag_first None = None

unfoldable pub take_flag : List ℕ → Option (Bool × List ℕ)
take_flag bytes = flag_first (take_byte bytes)

-- a text, where the bytes are UTF-8
abbrev pub text_of : List ℕ → Option (List ℕ)
text_of bytes = if is_utf8 bytes then Some (chars bytes) else None

abbrev pub text_first : Option (List ℕ × List ℕ) → Option (List ℕ × List ℕ)
text_first (Some x) = with_rest (text_of x.0) x.1
text_first None = None

unfoldable pub take_text : List ℕ → Option (List ℕ × List ℕ)
take_text bytes = text_first (take_item bytes)

-- a lock id that may be carried
abbrev pub some_first : Option (Guid × List ℕ) → Option (Option Guid × List ℕ)
some_first (Some x) = Some (Some x.0, x.1)
some_first None = None

abbrev pub carried_by : ℕ → List ℕ → Option (Option Guid × List ℕ)
carried_by b rest = if b == 0 then Some (None, rest) else if b == 1 then some_first (take_guid rest) else None

abbrev pub carried_first : Option (ℕ × List ℕ) → Option (Option Guid × List ℕ)
carried_first (Some x) = carried_by x.0 x.1
carried_first None = None

unfoldable pub take_carried : List ℕ → Option (Option Guid × List ℕ)
take_carried bytes = carried_first (take_byte bytes)
