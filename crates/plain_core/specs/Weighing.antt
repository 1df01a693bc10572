-- What is left of a limit.
use Rattle.std.specs.Prelude.{ℕ, ◌-◌, nat_le, nat_lt, Bool, if◌then◌else◌, List, Option, Some, None}
use Rattle.std.specs.List.{list_all}
use Rattle.doc_model.specs.declared.doc.Part.{Part}
use Rattle.doc_model.specs.declared.element.Element.{Element}
use Rattle.doc_model.specs.rules.Limits.{most_objects}
use Rattle.doc_model.specs.rules.Weights.{objects_written}

-- an element that is written in few enough stream objects to be read again
abbrev pub is_few : Element → Bool
is_few e = nat_le (objects_written e) most_objects

abbrev pub all_few : List Element → Bool
all_few es = list_all is_few es

abbrev pub few_parts : List Part → Bool
few_parts parts = list_all (λ p. all_few p.elements) parts

-- what is left of a limit after so much, none where it is more
abbrev pub what_is_left : ℕ → ℕ → Option ℕ
what_is_left limit taken = if nat_lt limit taken then None else Some (limit - taken)
