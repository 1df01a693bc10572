use Rattle.std.proofs.Common.{◌≡◌, ◌+◌, drop, true}
use Rattle.doc_model.specs.rules.Weights.{weight_of}
use Rattle.plain_core.specs.Reaching.{among}
use Rattle.plain_core.specs.Weighing.{all_few}
use Rattle.plain_core.proofs.reaching.weigh_named.Given as goal

-- what is left of the limit is without what was weighed
abbrev pub invariant-loop-element : goal.invariant-loop-element
invariant-loop-element l =
    (l.left + weight_of (among l.named l.elements) ≡ l.limit + weight_of (among l.named (drop l.element-index l.elements)))
    × (all_few (drop l.element-index l.elements) ≡ true)
