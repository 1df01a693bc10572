-- Ranges in order, and one more that is put among them.
use Rattle.std.specs.Prelude.{ℕ, suc, nat_le, min, max, Bool, ◌&&◌, if◌then◌else◌, List, [], ◌∷◌}
use Rattle.compact_values.specs.declared.guid.Guid.{Guid}
use Rattle.compact_values.specs.SameIds.{same_guid}
use Rattle.doc_model.specs.declared.knowledge.Range.{Range}
use Rattle.knowledge_set.specs.Maximal.{is_apart}

-- whether a range has a number of a GUID
abbrev pub has : Guid → ℕ → Range → Bool
has guid k r = same_guid r.guid guid && nat_le r.from k && nat_le k r.to

-- the range from where the first of the two begins to where the last of them ends
abbrev pub hull : Range → Range → Range
hull a b = record { guid = a.guid; from = min a.from b.from; to = max a.to b.to }

-- how many, from the front, are apart before a range
abbrev pub place_in : List Range → Range → ℕ
place_in [] r = 0
place_in (x ∷ xs) r = if is_apart x r then suc (place_in xs r) else 0

-- a range with all from the front that it isn't apart from, and the rest
abbrev pub absorbed : Range → List Range → List Range
absorbed r [] = r ∷ []
absorbed r (x ∷ xs) = if is_apart r x then r ∷ x ∷ xs else absorbed (hull r x) xs

-- a range among those that are in order
abbrev pub with_range : List Range → Range → List Range
with_range [] r = r ∷ []
with_range (x ∷ xs) r = if is_apart x r then x ∷ with_range xs r else absorbed r (x ∷ xs)
