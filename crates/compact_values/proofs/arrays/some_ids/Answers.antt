use Rattle.std.proofs.Common.{◌+◌, ◌-◌, sym, ap, ◌∙◌, length, drop, List, ℕ, arith}
use Rattle.compact_values.specs.IdReading.{exguid_at}
use Rattle.compact_values.specs.Placed.{PartReading, items_at, single}
use Rattle.compact_values.specs.declared.ids.ExGuid.{ExGuid}
use Rattle.compact_values.proofs.ArraySteps.{item_found, single_answer}
use Rattle.compact_values.proofs.arrays.some_ids.Goals as goal

pub loop-i-preserved : goal.loop-i-preserved
loop-i-preserved c =
    let read : List ℕ → PartReading ExGuid = λ b. single (exguid_at b) in
    let w = c.loop-i.invariant in
    let one = item_found read c.args.bytes.now c.args.at (c.args.count - c.loop-i._i) (c.args.count - (c.loop-i._i + 1)) c.loop-i.ids c.loop-i.place c.in_ok-id.id c.in_ok-id.next
    (omega arith) w.order (c.in_ok-id.ensures.exact ∙ single_answer (length c.args.bytes.now) c.loop-i.place (exguid_at (drop c.loop-i.place c.args.bytes.now))) in
    record {
      order = omega (arith, one.further, w.order);
      within = c.in_ok-id.ensures.inside;
      items_are = ap (λ (l : List ExGuid). items_at read (c.args.count - (c.loop-i._i + 1)) l (c.in_ok-id.next - c.args.at) (drop c.in_ok-id.next c.args.bytes.now)) c.in_ok-push.ensures.ok ∙ sym one.items_are ∙ w.items_are;
    }
