use Rattle.std.proofs.Common.{◌≡◌, ◌+◌, drop, true, sum_by}
use Rattle.std.specs.List.{list_all}
use Rattle.doc_model.specs.rules.Sound.{part_weight}
use Rattle.plain_core.specs.Weighing.{all_few}
use Rattle.plain_core.proofs.weighing.weigh_parts.Given as goal

-- what is left of the limit is without what was weighed
abbrev pub invariant-loop-part : goal.invariant-loop-part
invariant-loop-part l =
    (l.left + sum_by part_weight l.parts ≡ l.limit + sum_by part_weight (drop l.part-index l.parts))
    × (list_all (λ p. all_few p.elements) (drop l.part-index l.parts) ≡ true)
