use Rattle.std.proofs.Common.{◌≡◌, ◌++◌, take}
use Rattle.std.specs.List.{flat_map}
use Rattle.doc_model.specs.wire.WrittenElements.{data_bytes}
use Rattle.change_record.proofs.behind.behind_each_data.Given as goal

abbrev pub invariant-loop-object : goal.invariant-loop-object
invariant-loop-object l = l.fn.bytes ≡ flat_map data_bytes (take l.object-index l.objects) ++ l.rest
