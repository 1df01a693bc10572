use Rattle.std.proofs.Common.{◌≡◌, ◌*◌, ◌≤◌, ◌^◌, length, take}
use Rattle.std.specs.List.{flat_map}
use Rattle.doc_model.specs.wire.WrittenElements.{data_bytes}
use Rattle.doc_model.proofs.weighing.datas_weight.Given as goal

-- what those before this one take
abbrev pub invariant-loop-object : goal.invariant-loop-object
invariant-loop-object l = (l.size ≡ length (flat_map data_bytes (take l.object-index l.datas))) × (l.size ≤ 2 ^ 73 * l.object-index)
