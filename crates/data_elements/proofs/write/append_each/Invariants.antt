use Rattle.std.proofs.Common.{◌≡◌, ◌++◌, take}
use Rattle.std.specs.List.{flat_map}
use Rattle.doc_model.specs.wire.WrittenElements.{numbered_bytes}
use Rattle.data_elements.proofs.write.append_each.Given as goal

-- those before this one are written
abbrev pub invariant-loop-numbered : goal.invariant-loop-numbered
invariant-loop-numbered l = l.out ≡ l.initial.out ++ flat_map (numbered_bytes l.guid) (take l.numbered-index l.elements)
