use Rattle.std.proofs.Common.{◌≡◌, ◌++◌, take}
use Rattle.std.specs.List.{flat_map}
use Rattle.doc_model.specs.wire.WrittenRequests.{sent_bytes}
use Rattle.wire_requests.proofs.write.write_elements.Given as goal

-- those before this one are written
abbrev pub invariant-loop-element : goal.invariant-loop-element
invariant-loop-element l = l.out ≡ l.initial.out ++ flat_map sent_bytes (take l.element-index l.elements)
