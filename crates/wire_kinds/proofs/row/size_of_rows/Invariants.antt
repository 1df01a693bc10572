use Rattle.std.proofs.Common.{◌≡◌, ◌-◌, ◌^◌, min, length, take}
use Rattle.std.specs.List.{flat_map}
use Rattle.wire_kinds.specs.Row.{row, row_bytes}
use Rattle.wire_kinds.proofs.row.size_of_rows.Given as goal

-- what the objects before this one take
abbrev pub invariant-loop-value : goal.invariant-loop-value
invariant-loop-value g l = l.size ≡ min (length (flat_map (row_bytes (row l.number g.R.Encode.kind)) (take l.value-index l.values))) (2 ^ 64 - 1)
