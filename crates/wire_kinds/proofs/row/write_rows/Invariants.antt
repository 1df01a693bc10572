use Rattle.std.proofs.Common.{◌≡◌, ◌++◌, take}
use Rattle.std.specs.List.{flat_map}
use Rattle.wire_kinds.specs.Row.{row, row_bytes}
use Rattle.wire_kinds.proofs.row.write_rows.Given as goal

-- the objects before this one are written
abbrev pub invariant-loop-value : goal.invariant-loop-value
invariant-loop-value g l = l.out ≡ l.initial.out ++ flat_map (row_bytes (row l.number g.R.Encode.kind)) (take l.value-index l.values)
