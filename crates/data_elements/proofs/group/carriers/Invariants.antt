use Rattle.std.proofs.Common.{◌≡◌, ◌++◌, map, drop}
use Rattle.std.specs.Prelude.{filter, ◌||◌}
use Rattle.stream_objects.specs.Objects.{is_kind}
use Rattle.data_elements.specs.GroupReading.{carrier_at}
use Rattle.data_elements.proofs.group.carriers.Given as goal

abbrev pub invariant-loop-tree : goal.invariant-loop-tree
invariant-loop-tree l =
    l.carriers ++ map (carrier_at l.bytes) (filter (λ c. is_kind l.first c || is_kind l.second c) (drop l.tree-index l.trees)) ≡ map (carrier_at l.bytes) (filter (λ c. is_kind l.first c || is_kind l.second c) l.trees)
