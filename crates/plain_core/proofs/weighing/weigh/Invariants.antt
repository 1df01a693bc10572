use Rattle.std.proofs.Common.{◌≡◌, ◌+◌, drop, true}
use Rattle.std.specs.List.{list_all}
use Rattle.doc_model.specs.rules.Weights.{weight_of}
use Rattle.plain_core.specs.Weighing.{is_few}
use Rattle.plain_core.proofs.weighing.weigh.Given as goal

-- what is left of the limit is without what was weighed
abbrev pub invariant-loop-element : goal.invariant-loop-element
invariant-loop-element l =
    (l.left + weight_of l.elements ≡ l.limit + weight_of (drop l.element-index l.elements)) × (list_all is_few (drop l.element-index l.elements) ≡ true)
