use Rattle.std.proofs.Common.{◌≡◌, ◌-◌, ◌++◌, map}
use Rattle.std.specs.List.{range_with_len}
use Rattle.file_nodes.specs.Chunks.{id_of}
use Rattle.file_nodes.proofs.file_objects.consecutive_ids.Given as goal

-- with those of the values that are left they are all
abbrev pub invariant-loop-value : goal.invariant-loop-value
invariant-loop-value l = l.ids ++ map (id_of l.guid) (range_with_len l.value (l.value-end - l.value)) ≡ map (id_of l.guid) (range_with_len l.fn.first l.fn.count)
