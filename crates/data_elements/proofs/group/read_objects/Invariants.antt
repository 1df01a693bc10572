use Rattle.std.proofs.Common.{◌≡◌, [], drop}
use Rattle.std.specs.Prelude.{filter, ◌||◌}
use Rattle.stream_objects.specs.Objects.{is_kind}
use Rattle.data_elements.specs.GroupReading.{objects_from}
use Rattle.data_elements.proofs.group.read_objects.Given as goal

abbrev pub invariant-loop-tree : goal.invariant-loop-tree
invariant-loop-tree l =
    objects_from l.bytes l.objects l.left (filter (λ c. is_kind 0x16 c || is_kind 0x1C c) (drop l.tree-index l.trees)) ≡ objects_from l.bytes [] l.declarations (filter (λ c. is_kind 0x16 c || is_kind 0x1C c) l.trees)
