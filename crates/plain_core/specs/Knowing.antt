-- Which of the first serials a client knows, told for all of them at once.
use Rattle.std.specs.Prelude.{◌≡◌, ℕ, ◌+◌, ◌<◌, ◌≤◌, nat_le, Bool, List, take, length, slice_get, Some}
use Rattle.std.specs.List.{list_any}
use Rattle.compact_values.specs.declared.guid.Guid.{Guid}
use Rattle.doc_model.specs.declared.knowledge.Range.{Range}
use Rattle.doc_model.specs.rules.Pulls.{knows}

-- the serials from 1 on, each with whether it is known
abbrev pub TellsEach : Guid → List Range → List Bool → Type 0
TellsEach guid ranges flags = (i : ℕ) → i < length flags → slice_get flags i ≡ Some (knows guid ranges (i + 1))

-- whether one of the first k ends is at k or behind it: what begins at one of the serials 1 to k then lasts until k
abbrev pub covers : List ℕ → ℕ → Bool
covers ends k = list_any (nat_le k) (take k ends)

-- the ends cover those of the serials from 1 on that are known
abbrev pub TellsRanges : Guid → List Range → List ℕ → Type 0
TellsRanges guid ranges ends = (k : ℕ) → 1 ≤ k → k ≤ length ends → covers ends k ≡ knows guid ranges k
