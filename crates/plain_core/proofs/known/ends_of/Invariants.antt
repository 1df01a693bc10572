use Rattle.std.proofs.Common.{◌≡◌, ℕ, ◌≤◌, ◌||◌, drop}
use Rattle.std.specs.Prelude.{vec_len}
use Rattle.doc_model.specs.rules.Pulls.{knows}
use Rattle.plain_core.specs.Knowing.{covers}
use Rattle.plain_core.proofs.known.ends_of.Given as goal

-- what is noted, and what the other ranges have
abbrev pub invariant-loop-range : goal.invariant-loop-range
invariant-loop-range l = record {
  len : vec_len l.ends ≡ l.count;
  told : (k : ℕ) → 1 ≤ k → k ≤ l.count → (covers l.ends.items k || knows l.guid (drop l.range-index l.ranges) k) ≡ knows l.guid l.ranges k;
}
