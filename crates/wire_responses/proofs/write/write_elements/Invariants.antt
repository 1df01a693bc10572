use Rattle.std.proofs.Common.{◌≡◌, ◌++◌, drop}
use Rattle.std.specs.List.{flat_map}
use Rattle.doc_model.specs.wire.WrittenElements.{numbered_bytes}
use Rattle.wire_responses.proofs.write.write_elements.Given as goal

abbrev pub invariant-loop-numbered : goal.invariant-loop-numbered
invariant-loop-numbered l = l.out ++ flat_map (numbered_bytes l.guid) (drop l.numbered-index l.elements) ≡ l.fn.out ++ flat_map (numbered_bytes l.guid) l.elements
