use Rattle.std.proofs.Common.{ℕ, ◌+◌, ◌<◌, ◌≤◌, List, length, map, sym, ap, ◌∙◌, arith}
use Rattle.std.specs.List.{range_with_len}
use Rattle.std.specs.Int.{div_ceil}
use Rattle.compact_values.specs.declared.ids.ExGuid.{ExGuid}
use Rattle.file_nodes.specs.Chunks.{id_of}
use Rattle.file_nodes.proofs.ChunkLaws.{top-few, top-many, ok_is}
use Rattle.file_nodes.proofs.file_objects.top_ids.Goals as goal

pub returns-then-leaves : goal.returns-then-leaves
returns-then-leaves c =
    let counted = c.leaf_count-leaves.ensures.count in
    let few : div_ceil (length c.args.file.now) 65536 ≤ 64 = omega (arith, counted) in
    ok_is _ _ _ c.consecutive_ids.ensures
    (ap (λ (n : ℕ). map (id_of c.args.guid) (range_with_len c.args.first n)) counted ∙ sym (top-few c.args.file.now c.args.guid c.args.first few))

pub returns-else-leaves : goal.returns-else-leaves
returns-else-leaves c =
    let counted = c.leaf_count-leaves.ensures.count in
    let many : 64 < div_ceil (length c.args.file.now) 65536 = omega (arith, counted) in
    let ids : ℕ → ℕ → List ExGuid = λ n m. map (id_of c.args.guid) (range_with_len (c.args.first + n) m) in
    ok_is _ _ _ c.consecutive_ids-else-leaves.ensures
    (ap (λ (n : ℕ). ids n c.div_ceil.result) counted ∙ ap (ids (div_ceil (length c.args.file.now) 65536)) c.div_ceil.ensures
    ∙ sym (top-many c.args.file.now c.args.guid c.args.first many c.requires.short))
