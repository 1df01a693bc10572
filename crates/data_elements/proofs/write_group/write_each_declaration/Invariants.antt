use Rattle.std.proofs.Common.{◌≡◌, ◌++◌, take}
use Rattle.std.specs.List.{flat_map}
use Rattle.doc_model.specs.wire.WrittenElements.{declaration_bytes}
use Rattle.data_elements.proofs.write_group.write_each_declaration.Given as goal

-- those before this one are written
abbrev pub invariant-loop-object : goal.invariant-loop-object
invariant-loop-object l = l.out ≡ l.initial.out ++ flat_map declaration_bytes (take l.object-index l.objects)
