use Rattle.std.proofs.Common.{◌≡◌, ◌+◌, ◌*◌, ◌≤◌, length, take}
use Rattle.std.specs.List.{flat_map}
use Rattle.compact_values.specs.Compact.{compact}
use Rattle.compact_values.specs.Ids.{cell_id}
use Rattle.doc_model.proofs.sizes.cells_size.Given as goal

-- what the items before this one take, behind the count
abbrev pub invariant-loop-cell : goal.invariant-loop-cell
invariant-loop-cell l = (l.size ≡ length (compact (length l.cells)) + length (flat_map cell_id (take l.cell-index l.cells))) × (l.size ≤ 9 + 42 * l.cell-index)
