-- The weights that are kept with elements.
use Rattle.std.specs.Prelude.{ℕ, ◌-◌, ◌^◌, min, nat_le, if◌then◌else◌, List}
use Rattle.std.specs.List.{sum_by}
use Rattle.doc_model.specs.declared.element.Element.{Element}
use Rattle.doc_model.specs.rules.Limits.{most_objects}
use Rattle.doc_model.specs.rules.Weights.{weight, objects_written}

-- the weight of an element that is written in few enough stream objects to be weighed
abbrev pub kept_weight : Element → ℕ
kept_weight e = if nat_le (objects_written e) most_objects then weight e else 0

-- a sum that stays at the greatest number that can be kept
abbrev pub at_most_all : ℕ → ℕ
at_most_all n = min (2 ^ 128 - 1) n

abbrev pub whole_weight : List Element → ℕ
whole_weight es = at_most_all (sum_by kept_weight es)
