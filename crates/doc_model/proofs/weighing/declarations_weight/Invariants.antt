use Rattle.std.proofs.Common.{◌≡◌, ◌*◌, ◌≤◌, ◌^◌, length, take}
use Rattle.std.specs.List.{flat_map}
use Rattle.doc_model.specs.wire.WrittenElements.{declaration_bytes}
use Rattle.doc_model.proofs.weighing.declarations_weight.Given as goal

-- what those before this one take
abbrev pub invariant-loop-object : goal.invariant-loop-object
invariant-loop-object l = (l.size ≡ length (flat_map declaration_bytes (take l.object-index l.declarations))) × (l.size ≤ 2 ^ 73 * l.object-index)
