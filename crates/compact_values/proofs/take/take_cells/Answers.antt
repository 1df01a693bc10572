use Rattle.std.proofs.Common.{◌≡◌, true}
use Rattle.compact_values.specs.Placed.{cells_at}
use Rattle.compact_values.specs.Taking.{take_cells}
use Rattle.compact_values.specs.declared.fault.ValueFault.TheVariants.{NoMemory}
use Rattle.compact_values.proofs.TakeSteps.{parts_taken, none_taken}
use Rattle.compact_values.proofs.take.take_cells.Goals as goal

pub returns-in-Ok : goal.returns-in-Ok
unfolding take_cells
returns-in-Ok c = parts_taken c.args.bytes.now (cells_at c.args.bytes.now) c.in-Ok.cells c.in-Ok.next (c.in-Ok.ensures.exact (λ e. absurd cc))

pub returns-else-is_no_memory : goal.returns-else-is_no_memory
unfolding take_cells
returns-else-is_no_memory c =
    none_taken c.args.bytes.now (cells_at c.args.bytes.now) c.in-Err.fault (
    c.in-Err.ensures.exact (λ e.
    let same : c.in-Err.fault ≡ NoMemory = cc in
    let told : c.is_no_memory.result ≡ true = c.is_no_memory.ensures.1 same in
    absurd (cc (told, c.if-is_no_memory.false)))
    )
