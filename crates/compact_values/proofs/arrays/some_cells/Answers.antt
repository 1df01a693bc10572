use Rattle.std.proofs.Common.{◌+◌, ◌-◌, sym, ap, ◌∙◌, length, drop, List, ℕ, arith}
use Rattle.std.proofs.lemmas.Result.{err_from_is_err_and}
use Rattle.compact_values.specs.Placed.{PartReading, answer_in, items_at, cell_id_at}
use Rattle.compact_values.specs.declared.ids.CellId.{CellId}
use Rattle.compact_values.proofs.ArraySteps.{item_found, item_fault}
use Rattle.compact_values.proofs.arrays.some_cells.Goals as goal

pub loop-i-preserved : goal.loop-i-preserved
loop-i-preserved c =
    let read : List ℕ → PartReading CellId = cell_id_at in
    let w = c.loop-i.invariant in
    let one = item_found read c.args.bytes.now c.args.at (c.args.count - c.loop-i._i) (c.args.count - (c.loop-i._i + 1)) c.loop-i.cells c.loop-i.place c.in_ok-cell.cell c.in_ok-cell.next
    (omega arith) w.order c.in_ok-cell.ensures.exact in
    record {
      order = omega (arith, one.further, w.order);
      within = c.in_ok-cell.ensures.inside;
      items_are = ap (λ (l : List CellId). items_at read (c.args.count - (c.loop-i._i + 1)) l (c.in_ok-cell.next - c.args.at) (drop c.in_ok-cell.next c.args.bytes.now)) c.in_ok-push.ensures.ok ∙ sym one.items_are ∙ w.items_are;
    }

pub returns-in_err-cell-clause-exact : goal.returns-in_err-cell-clause-exact
returns-in_err-cell-clause-exact c some =
    let p = err_from_is_err_and c.from_residual.result c.from_residual.ensures.1 in
    let w = c.loop-i.invariant in
    rw (p.1, p.2) (
    item_fault cell_id_at c.args.bytes.now c.args.at (c.args.count - c.loop-i._i) (c.args.count - (c.loop-i._i + 1)) c.loop-i.cells c.loop-i.place c.in_err-cell.field-0.0 (omega arith) w.order c.in_err-cell.ensures.exact
    ∙ ap (λ (r : PartReading (List CellId)). answer_in (length c.args.bytes.now) c.args.at r) w.items_are
    )
