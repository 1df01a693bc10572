use Rattle.std.proofs.Common.{◌-◌}
use Rattle.compact_values.specs.Placed.{cell_id_at}
use Rattle.compact_values.proofs.ArrayLoops.{Underway}
use Rattle.compact_values.proofs.arrays.some_cells.Given as goal

-- what is left to be read, behind what was read, is what all is
abbrev pub invariant-loop-i : goal.invariant-loop-i
invariant-loop-i l = Underway cell_id_at l.bytes l.at l.first l.count l.cells l.place (l.count - l._i)
