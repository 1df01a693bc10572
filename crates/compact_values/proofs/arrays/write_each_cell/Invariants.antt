use Rattle.std.proofs.Common.{◌≡◌, ◌++◌, take}
use Rattle.std.specs.List.{flat_map}
use Rattle.compact_values.specs.Ids.{cell_id}
use Rattle.compact_values.proofs.arrays.write_each_cell.Given as goal

-- the items before this one are written
abbrev pub invariant-loop-cell : goal.invariant-loop-cell
invariant-loop-cell l = l.out ≡ l.initial.out ++ flat_map cell_id (take l.cell-index l.cells)
