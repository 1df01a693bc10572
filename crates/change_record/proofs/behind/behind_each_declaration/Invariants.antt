use Rattle.std.proofs.Common.{◌≡◌, ◌++◌, take}
use Rattle.std.specs.List.{flat_map}
use Rattle.doc_model.specs.wire.WrittenElements.{declaration_bytes}
use Rattle.change_record.proofs.behind.behind_each_declaration.Given as goal

abbrev pub invariant-loop-object : goal.invariant-loop-object
invariant-loop-object l = l.fn.bytes ≡ flat_map declaration_bytes (take l.object-index l.objects) ++ l.rest
