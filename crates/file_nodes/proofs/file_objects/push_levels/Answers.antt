use Rattle.std.proofs.Common.{◌≡◌, ℕ, ◌+◌, ◌<◌, ◌≤◌, List, ◌++◌, length, sym, ap, ◌∙◌, arith, append_assoc}
use Rattle.std.specs.Int.{div_ceil}
use Rattle.doc_model.specs.declared.element.Object.{Object}
use Rattle.file_nodes.specs.Pieces.{pieces}
use Rattle.file_nodes.specs.Chunking.{objects_of, leaves, levels, node, numbered}
use Rattle.file_nodes.proofs.ChunkLaws.{all-few, all-many, on_ok_is}
use Rattle.file_nodes.proofs.file_objects.push_levels.Goals as goal

pub returns-then-leaves : goal.returns-then-leaves
returns-then-leaves c =
    let few : div_ceil (length c.args.file.now) 65536 ≤ 64 = omega (arith, c.leaf_count-leaves.ensures.count) in
    c.in_ok-push_leaves.ensures ∙ ap (λ (l : List Object). c.args.objects.now ++ l) (sym (all-few c.args.file.now c.args.guid c.args.first few))

pub returns-else-leaves : goal.returns-else-leaves
returns-else-leaves c =
    let bytes = c.args.file.now in
    let guid = c.args.guid in
    let v = c.args.first in
    let counted = c.leaf_count-leaves.ensures.count in
    let many : 64 < div_ceil (length bytes) 65536 = omega (arith, counted) in
    let nodes : ℕ → List Object = λ n. objects_of (numbered (node 0x1F guid) (v + n) (pieces 64 (leaves bytes guid v))) in
    let both : c.push_leaves.new.objects ++ nodes c.leaf_count-leaves.result ≡ c.args.objects.now ++ objects_of (levels bytes guid v).all
    = ap (λ (l : List Object). l ++ nodes c.leaf_count-leaves.result) c.in_ok-push_leaves.ensures
    ∙ append_assoc c.args.objects.now (objects_of (leaves bytes guid v)) (nodes c.leaf_count-leaves.result)
    ∙ ap (λ (n : ℕ). c.args.objects.now ++ (objects_of (leaves bytes guid v) ++ nodes n)) counted
    ∙ ap (λ (l : List Object). c.args.objects.now ++ l) (sym (all-many bytes guid v many c.requires.short)) in
    on_ok_is c.push_nodes.result c.push_nodes.new.objects _ _ c.push_nodes.ensures both
