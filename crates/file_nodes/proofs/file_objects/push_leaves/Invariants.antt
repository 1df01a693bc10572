use Rattle.std.proofs.Common.{◌≡◌, ◌+◌, ◌≤◌, ◌++◌, length}
use Rattle.std.specs.Slice.Iter.{chunks_rest, chunks_size}
use Rattle.file_nodes.specs.Chunking.{objects_of, leaves}
use Rattle.file_nodes.proofs.file_objects.push_leaves.Given as goal

-- with the leaves of what is left they are all
abbrev pub invariant-loop-bytes : goal.invariant-loop-bytes
invariant-loop-bytes l =
    (goal.iterator-loop-bytes).can_next l.bytes-iterator
    × (goal.iterator-loop-bytes).is_finite l.bytes-iterator
    × (chunks_size l.bytes-iterator ≡ 65536)
    × (l.value + length (chunks_rest l.bytes-iterator) ≤ l.fn.first + length l.fn.file)
    × (l.objects ++ objects_of (leaves (chunks_rest l.bytes-iterator) l.guid l.value) ≡ l.initial.objects ++ objects_of (leaves l.fn.file l.guid l.fn.first))
