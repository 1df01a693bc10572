-- Binary items and arrays: the spellings (MS-FSSHTTPB 2.2.1.3 and 2.2.1.8).
use Rattle.std.specs.Prelude.{◌≡◌, ℕ, ◌≤◌, ◌<◌, ◌^◌, List, ◌++◌, length}
use Rattle.std.specs.List.{AllByRecursion, flat_map, slice_range}
use Rattle.compact_values.specs.Compact.{compact}
use Rattle.compact_values.specs.Kinds.{SpellsBy}
use Rattle.compact_values.specs.Ids.{exguid, cell_id, FitsExGuid, FitsCellId}
use Rattle.compact_values.specs.Spelled.{IsSpelledAt}
use Rattle.compact_values.specs.declared.ids.ExGuid.{ExGuid}
use Rattle.compact_values.specs.declared.ids.CellId.{CellId}
use Rattle.compact_values.specs.declared.span.Span.{Span}

-- a compact length, and that many bytes
abbrev pub item : List ℕ → List ℕ
item content = compact (length content) ++ content

-- The length is in the range of a compact integer.
abbrev pub FitsItem : List ℕ → Type 0
FitsItem content = length content < 2 ^ 64

abbrev pub SpellsItem : List ℕ → List ℕ → Type 0
SpellsItem = SpellsBy FitsItem item

-- An item is spelled from `at` up to `next`, and its content stands in the span, at the end.
pub record IsItemAt (span : Span) (bytes : List ℕ) (at next : ℕ) : Type 0 where
  pub order : span.from ≤ span.to
  pub ends : span.to ≡ next
  pub spelled : IsSpelledAt SpellsItem (slice_range bytes span.from span.to) bytes at next

-- a compact count, and the items one behind the other
abbrev pub array : {V : Type 0} → (V → List ℕ) → List V → List ℕ
array spelling vs = compact (length vs) ++ flat_map spelling vs

-- The count is in the range of a compact integer, and each item in its own.
abbrev pub FitsArray : {V : Type 0} → (V → Type 0) → List V → Type 0
FitsArray InRange vs = (length vs < 2 ^ 64) × AllByRecursion InRange vs

abbrev pub SpellsArray : {V : Type 0} → (V → Type 0) → (V → List ℕ) → List V → List ℕ → Type 0
SpellsArray InRange spelling = SpellsBy (FitsArray InRange) (array spelling)

abbrev pub SpellsIds : List ExGuid → List ℕ → Type 0
SpellsIds = SpellsArray FitsExGuid exguid

abbrev pub SpellsCells : List CellId → List ℕ → Type 0
SpellsCells = SpellsArray FitsCellId cell_id
