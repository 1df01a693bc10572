use Rattle.std.proofs.Common.{◌≡◌, ℕ, ◌+◌, ◌≤◌, true, ◌||◌, length, take, vec_len, vec_capacity}
use Rattle.compact_values.specs.declared.guid.Guid.{Guid}
use Rattle.doc_model.specs.rules.Pulls.{knows}
use Rattle.knowledge_set.specs.Maximal.{are_maximal}
use Rattle.knowledge_set.proofs.joining.join_few.Given as goal

-- the others with those so far, and room for the rest
abbrev pub invariant-loop-range : goal.invariant-loop-range
invariant-loop-range l = record {
  maximal : are_maximal l.ranges.items ≡ true;
  has : (guid : Guid) (k : ℕ) → knows guid l.ranges.items k ≡ (knows guid l.fn.ranges.items k || knows guid (take l.range-index l.few) k);
  room : vec_len l.ranges + length l.few ≤ vec_capacity l.ranges + l.range-index;
}
