-- Which texts are the name of a document, and lists of names.
use Rattle.std.specs.Prelude.{◌≡◌, ℕ, ◌==◌, Bool, false, not, ◌&&◌, List, [], ◌∷◌, length, nat_le, position, Option}
use Rattle.std.specs.List.{list_all, position_or_len}
use Rattle.std.specs.Str.{encode_utf8_all}
use Rattle.std.specs.Ordering.{nat_cmp, is_ge}
use Rattle.std.specs.Cmp.Lexicographic.{slice_cmp}
use Rattle.std.specs.List.Sorted.{IsStrictlySortedBy}
use Rattle.document_store.specs.declared.name.TheConstants.{MOST_BYTES}

-- no control character, and neither `/` nor `\`
abbrev pub is_name_byte : ℕ → Bool
is_name_byte byte = nat_le 32 byte && not (byte == 127) && not (byte == 47) && not (byte == 92)

-- neither `.` nor `-` stands at the front
abbrev pub begins_name : List ℕ → Bool
begins_name [] = false
begins_name (first ∷ more) = not (first == 46) && not (first == 45)

-- A name has 1 to 100 such bytes.
abbrev pub is_name : List ℕ → Bool
is_name bytes = begins_name bytes && nat_le (length bytes) MOST_BYTES && list_all is_name_byte bytes

-- They ascend by their bytes, so none is there twice.
abbrev pub AreAscending : List (List ℕ) → Type 0
AreAscending names = IsStrictlySortedBy (slice_cmp nat_cmp) names

-- a text that doesn't come before the name
abbrev pub comes_from : List ℕ → List ℕ → Bool
comes_from name text = is_ge (slice_cmp nat_cmp (encode_utf8_all text) name)

-- the place of the first such text, and the same or the end
abbrev pub first_from : List ℕ → List (List ℕ) → Option ℕ
first_from name texts = position (comes_from name) texts

abbrev pub place_of : List ℕ → List (List ℕ) → ℕ
place_of name texts = position_or_len (comes_from name) texts
