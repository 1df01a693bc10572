use Rattle.std.proofs.Common.{◌≡◌, ℕ, ◌+◌, ◌<◌, ◌≤◌, nat_le, length, take, Some, slice_get}
use Rattle.std.specs.List.{list_any}
use Rattle.plain_core.specs.Knowing.{covers}
use Rattle.plain_core.proofs.known.flags_of.Given as goal

-- the flags so far, and the furthest of the ends so far
abbrev pub invariant-loop-end : goal.invariant-loop-end
invariant-loop-end l = record {
  serial : l.serial ≡ l.end-index;
  len : length l.flags ≡ l.end-index;
  furthest : (k : ℕ) → 1 ≤ k → nat_le k l.furthest ≡ list_any (nat_le k) (take l.end-index l.ends);
  told : (i : ℕ) → i < l.end-index → slice_get l.flags i ≡ Some (covers l.ends (i + 1));
}
