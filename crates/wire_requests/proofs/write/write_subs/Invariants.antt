use Rattle.std.proofs.Common.{◌≡◌, ◌++◌, take}
use Rattle.std.specs.List.{flat_map}
use Rattle.doc_model.specs.wire.WrittenRequests.{sub_bytes}
use Rattle.wire_requests.proofs.write.write_subs.Given as goal

-- those before this one are written
abbrev pub invariant-loop-sub : goal.invariant-loop-sub
invariant-loop-sub l = l.out ≡ l.initial.out ++ flat_map sub_bytes (take l.sub-index l.subs)
