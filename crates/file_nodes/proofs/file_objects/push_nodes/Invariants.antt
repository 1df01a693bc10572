use Rattle.std.proofs.Common.{◌≡◌, ◌+◌, ◌≤◌, ◌++◌, length}
use Rattle.std.specs.Slice.Iter.{chunks_rest, chunks_size}
use Rattle.file_nodes.specs.Pieces.{pieces}
use Rattle.file_nodes.specs.Chunking.{objects_of, leaves, node, numbered}
use Rattle.file_nodes.proofs.file_objects.push_nodes.Given as goal

-- with the nodes over the leaves of what is left they are all
abbrev pub invariant-loop-bytes : goal.invariant-loop-bytes
invariant-loop-bytes l =
    let left = chunks_rest l.bytes-iterator in
    (goal.iterator-loop-bytes).can_next l.bytes-iterator
    × (goal.iterator-loop-bytes).is_finite l.bytes-iterator
    × (chunks_size l.bytes-iterator ≡ 4194304)
    × (length left ≤ 16777216)
    × (l.value + length left ≤ l.fn.first + length l.fn.file)
    × (l.leaf + length left ≤ l.fn.first_leaf + length l.fn.file)
    × (l.objects ++ objects_of (numbered (node 0x1F l.guid) l.value (pieces 64 (leaves left l.guid l.leaf)))
    ≡ l.initial.objects ++ objects_of (numbered (node 0x1F l.guid) l.fn.first (pieces 64 (leaves l.fn.file l.guid l.fn.first_leaf))))
