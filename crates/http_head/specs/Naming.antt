-- Names of documents, and the texts of paths that stand for them.
use Rattle.std.specs.Prelude.{ℕ, ◌+◌, ◌*◌, List, [], ◌∷◌, length, Bool, ◌&&◌, not, false, ◌==◌, nat_le, if◌then◌else◌, bytes_eq, Some, None}
use Rattle.std.specs.declared.option.Option.{Option}
use Rattle.std.specs.Option.{option_map}
use Rattle.std.specs.List.{list_all}
use Rattle.std.specs.Char.{is_ascii_hexdigit, digit_value}

-- a byte of a name: no control, and no slash of either kind
abbrev pub is_name_byte : ℕ → Bool
is_name_byte c = nat_le 0x20 c && not (c == 0x7F) && not (c == 47) && not (c == 92)

-- a name of a document: 1 to 100 such bytes, of which the first is no dot and no hyphen
abbrev pub is_name : List ℕ → Bool
is_name [] = false
is_name (first ∷ more) =
    not (first == 46) && not (first == 45) && nat_le (length (first ∷ more)) 100 && list_all is_name_byte (first ∷ more)

-- the bytes that %HH stands for, in their places
abbrev pub decoded : List ℕ → Option (List ℕ)
decoded [] = Some []
decoded (c ∷ []) = if c == 37 then None else Some (c ∷ [])
decoded (c ∷ a ∷ []) = if c == 37 then None else option_map (λ bytes. c ∷ bytes) (decoded (a ∷ []))
decoded (c ∷ a ∷ b ∷ text) =
    if c == 37 then (if is_ascii_hexdigit a && is_ascii_hexdigit b
    then option_map (λ bytes. (digit_value a * 16 + digit_value b) ∷ bytes) (decoded text) else None)
    else option_map (λ bytes. c ∷ bytes) (decoded (a ∷ b ∷ text))

-- the text, decoded, is the name
abbrev pub names_it : List ℕ → List ℕ → Bool
names_it text name = elim (decoded text) [ Some bytes ↦ bytes_eq bytes name | None ↦ false ]

-- the name is this byte, and then the text, decoded
abbrev pub goes_on : List ℕ → ℕ → List ℕ → Bool
goes_on text byte [] = false
goes_on text byte (first ∷ more) = byte == first && names_it text more
