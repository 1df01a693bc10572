use Rattle.std.proofs.Common.{◌≡◌, ◌++◌, take}
use Rattle.std.specs.List.{flat_map}
use Rattle.doc_model.specs.wire.WrittenElements.{range_bytes}
use Rattle.data_elements.proofs.write.append_each_range.Given as goal

-- those before this one are written
abbrev pub invariant-loop-range : goal.invariant-loop-range
invariant-loop-range l = l.out ≡ l.initial.out ++ flat_map range_bytes (take l.range-index l.ranges)
