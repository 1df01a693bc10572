-- Ranges of serial numbers that are in order and as few as can be.
use Rattle.std.specs.Prelude.{◌≡◌, ℕ, ◌+◌, nat_le, nat_lt, Bool, true, ◌&&◌, if◌then◌else◌, List, [], ◌∷◌}
use Rattle.std.specs.List.{list_all}
use Rattle.compact_values.specs.declared.guid.Guid.{Guid}
use Rattle.compact_values.specs.SameIds.{same_guid}
use Rattle.doc_model.specs.declared.knowledge.Range.{Range}
use Rattle.doc_model.specs.rules.Pulls.{knows}

-- whether a range has a number
abbrev pub has_some : Range → Bool
has_some r = nat_le r.from r.to

-- whether a range is before another with a number between them that neither has, or of a GUID with a lesser number
abbrev pub is_apart : Range → Range → Bool
is_apart a b = if same_guid a.guid b.guid then nat_lt (a.to + 1) b.from else nat_lt a.guid.number b.guid.number

-- ranges in order of GUID number and start; each has a number, and none has a number of another one or next to it
abbrev pub are_maximal : List Range → Bool
are_maximal [] = true
are_maximal (r ∷ rs) = has_some r && list_all (is_apart r) rs && are_maximal rs

-- two lists of ranges have the same numbers
abbrev pub KnowTheSame : List Range → List Range → Type 0
KnowTheSame a b = (guid : Guid) (k : ℕ) → knows guid a k ≡ knows guid b k

-- one list of such ranges has just these numbers
abbrev pub OneMaximalList : Type 0
OneMaximalList = (a b : List Range) → are_maximal a ≡ true → are_maximal b ≡ true → KnowTheSame a b → a ≡ b
