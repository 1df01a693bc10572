use Rattle.std.proofs.Common.{◌≡◌, ℕ, true, take}
use Rattle.compact_values.specs.declared.guid.Guid.{Guid}
use Rattle.doc_model.specs.rules.Pulls.{knows}
use Rattle.knowledge_set.specs.Maximal.{are_maximal}
use Rattle.knowledge_set.proofs.joining.joined.Given as goal

-- those so far
abbrev pub invariant-loop-range : goal.invariant-loop-range
invariant-loop-range l = record {
  maximal : are_maximal l.joined.items ≡ true;
  has : (guid : Guid) (k : ℕ) → knows guid l.joined.items k ≡ knows guid (take l.range-index l.range-items) k;
}
