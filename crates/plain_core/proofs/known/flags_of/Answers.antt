use Rattle.std.proofs.Common.{◌≡◌, ℕ, ◌+◌, ◌<◌, ◌≤◌, ◌∙◌, ap, nat_le, take, length, arith}
use Rattle.std.specs.List.{list_any}
use Rattle.plain_core.specs.Knowing.{covers}
use Rattle.plain_core.proofs.CoveredSerials.{further, no-further, one-longer, flags-more}
use Rattle.plain_core.proofs.known.flags_of.Goals as goal
use Rattle.plain_core.proofs.known.flags_of.Goals.{then-furthest-end, else-furthest-end}

-- one end more is gone through
pub loop-end-preserved : goal.loop-end-preserved
loop-end-preserved c =
    let inside : c.loop-end.end-index < length c.args.ends.now = omega arith in
    let reaches : (k : ℕ) → 1 ≤ k → nat_le k c.if-furthest-end.furthest ≡ list_any (nat_le k) (take (c.loop-end.end-index + 1) c.args.ends.now) =
    λ k some. elim c.if-furthest-end.branch [
      | then-furthest-end w ↦
          ap (nat_le k) w.furthest-is
          ∙ further c.args.ends.now c.loop-end.end-index c.loop-end.furthest k inside (c.loop-end.invariant.furthest k some) w.if-furthest-end.true
      | else-furthest-end w ↦
          ap (nat_le k) w.furthest-is
          ∙ no-further c.args.ends.now c.loop-end.end-index c.loop-end.furthest k inside (c.loop-end.invariant.furthest k some) (omega (arith, w.if-furthest-end.false))
    ] in
    let serial : c.loop-end.serial + 1 ≡ c.loop-end.end-index + 1 = ap (λ n. n + 1) c.loop-end.invariant.serial in
    record {
      serial = serial;
      len = one-longer c.loop-end.flags c.push.new.self c.loop-end.end-index (nat_le (c.loop-end.serial + 1) c.if-furthest-end.furthest) c.in_ok-push.ensures.ok c.loop-end.invariant.len;
      furthest = reaches;
      told = flags-more (λ i. covers c.args.ends.now (i + 1)) c.loop-end.flags c.push.new.self c.loop-end.end-index
          (nat_le (c.loop-end.serial + 1) c.if-furthest-end.furthest) c.in_ok-push.ensures.ok c.loop-end.invariant.len
          (ap (λ n. nat_le n c.if-furthest-end.furthest) serial ∙ reaches (c.loop-end.end-index + 1) (omega arith))
          c.loop-end.invariant.told;
    }
