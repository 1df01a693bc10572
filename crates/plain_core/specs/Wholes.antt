-- What holds of the elements and the versions that a plain core keeps, as tests.
use Rattle.std.specs.Prelude.{ℕ, nat_le, Bool, false, not, ◌&&◌, List, length, Option, None, Some, is_none}
use Rattle.std.specs.List.{list_all}
use Rattle.compact_values.specs.declared.guid.Guid.{Guid}
use Rattle.compact_values.specs.declared.ids.ExGuid.{ExGuid}
use Rattle.doc_model.specs.declared.doc.Commit.{Commit}
use Rattle.doc_model.specs.declared.element.Element.{Element}
use Rattle.doc_model.specs.rules.Files.{file}
use Rattle.doc_model.specs.rules.Limits.{most_file}
use Rattle.doc_model.specs.rules.Puts.{is_foreign}
use Rattle.doc_model.specs.rules.Reached.{absent}

-- an id that somebody may use
abbrev pub is_usable : Guid → ℕ → Element → Bool
is_usable guid drawn e = not (is_foreign guid drawn e.id)

abbrev pub all_usable : Guid → ℕ → List Element → Bool
all_usable guid drawn es = list_all (is_usable guid drawn) es

-- a file that is there and not too large
abbrev pub is_small : Option (List ℕ) → Bool
is_small None = false
is_small (Some bytes) = nat_le (length bytes) most_file

-- all that an index names is there, and the file at it is
abbrev pub is_whole : List Element → ExGuid → Bool
is_whole added index = is_none (absent added index) && is_small (file added index)

abbrev pub all_whole : List Element → List Commit → Bool
all_whole added commits = list_all (λ c. is_whole added c.index) commits
