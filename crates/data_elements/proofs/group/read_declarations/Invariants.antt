use Rattle.std.proofs.Common.{◌≡◌, [], drop}
use Rattle.std.specs.Prelude.{filter, ◌||◌}
use Rattle.stream_objects.specs.Objects.{is_kind}
use Rattle.data_elements.specs.Checking.{collect_from}
use Rattle.data_elements.specs.GroupReading.{declaration_at}
use Rattle.data_elements.proofs.group.read_declarations.Given as goal

abbrev pub invariant-loop-tree : goal.invariant-loop-tree
invariant-loop-tree l =
    collect_from declaration_at l.bytes l.declarations (filter (λ c. is_kind 0x18 c || is_kind 0x05 c) (drop l.tree-index l.trees)) ≡ collect_from declaration_at l.bytes [] (filter (λ c. is_kind 0x18 c || is_kind 0x05 c) l.trees)
