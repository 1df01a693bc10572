-- How long the chains of bases are.
use Rattle.std.specs.Prelude.{◌≡◌, ℕ, nat_le, if◌then◌else◌, List, length, Option, Some, None, option_map}
use Rattle.std.specs.BTreeMap.{BTreeMap, get}
use Rattle.compact_values.specs.declared.ids.ExGuid.{ExGuid}
use Rattle.compact_values.specs.IdPlaces.{key_of, key_order}
use Rattle.doc_model.specs.declared.element.Element.{Element}
use Rattle.doc_model.specs.declared.element.RevisionMap.{RevisionMap}
use Rattle.doc_model.specs.rules.Reached.{chain}
use Rattle.plain_core.specs.Keys.{IdKey}

-- how many revisions the chain of r has, None where it has no end or more than n
abbrev pub chain_length : List Element → List RevisionMap → ℕ → ExGuid → Option ℕ
chain_length added maps n r = option_map length (chain added maps n r)

-- the chain of r has d revisions
abbrev pub HasLength : List Element → List RevisionMap → ExGuid → ℕ → Type 0
HasLength added maps r d = (n : ℕ) → chain_length added maps n r ≡ (if nat_le d n then Some d else None)

-- each revision that has a length has a chain of that length
abbrev pub TellsLengths : List Element → List RevisionMap → BTreeMap IdKey ℕ → Type 0
TellsLengths added maps lengths = (r : ExGuid) (d : ℕ) → get key_order lengths (key_of r) ≡ Some d → HasLength added maps r d
