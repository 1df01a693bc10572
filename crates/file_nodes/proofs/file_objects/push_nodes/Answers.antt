use Rattle.std.proofs.Common.{◌≡◌, ◌+◌, ◌≤◌, ◌++◌, ◌∷◌, ℕ, min, List, length, sym, ap, ◌∙◌, rules, arith}
use Rattle.std.specs.Int.{div_ceil}
use Rattle.std.specs.Slice.Iter.{chunks_rest}
use Rattle.std.proofs.lemmas.List.{append-nil, length-append}
use Rattle.doc_model.specs.declared.element.Object.{Object}
use Rattle.file_nodes.specs.Pieces.{pieces}
use Rattle.file_nodes.specs.Chunking.{objects_of, leaves, node, numbered}
use Rattle.file_nodes.proofs.ChunkLaws.{nodes-front, nodes-nil, node_over_leaves, pushed}
use Rattle.file_nodes.proofs.file_objects.push_nodes.Goals as goal

pub loop-bytes-preserved : goal.loop-bytes-preserved
loop-bytes-preserved c =
    let so_far = c.loop-bytes.invariant in
    let steps = c.in-Some.ensures.steps in
    let guid = c.args.guid in
    let rest = chunks_rest c.next.new.self in
    let all = chunks_rest c.loop-bytes.bytes-iterator in
    let front = c.in-Some.bytes.now in
    let v = c.loop-bytes.value in
    let leaf = c.loop-bytes.leaf in
    let count = c.leaf_count-count.result in
    let size : length front ≡ min 4194304 (length all) = steps.1.1 ∙ ap (λ (n : ℕ). min n (length all)) so_far.2 in
    let sum : length all ≡ length front + length rest = ap length steps.1.0 ∙ length-append front rest in
    let counted : count ≡ div_ceil (length front) 65536 = c.leaf_count-count.ensures.count in
    let one = nodes-front 0x1F guid leaf v all front rest steps.1.0 size steps.1.2 in
    let of : ℕ → List Object = λ n. objects_of (numbered (node 0x1F guid) (v + 1) (pieces 64 (leaves rest guid (leaf + n)))) in
    let left : objects_of (numbered (node 0x1F guid) v (pieces 64 (leaves all guid leaf))) ≡ _ = ap objects_of one in
    let few : count ≤ length front = omega (arith, counted, size, steps.1.2) in
    let made = (node 0x1F guid v (leaves front guid leaf)).object in
    let object : c.in_ok-node.field-0 ≡ made
    = c.in_ok-node.ensures ∙ node_over_leaves 0x1F guid leaf v count c.in_ok-references.references front c.in_ok-references.ensures counted in
    let others : of (div_ceil (length front) 65536) ≡ of count = ap of (sym counted) in (
      search rules,
      tt,
      steps.0 ∙ so_far.2,
      omega (arith, so_far.3),
      omega (arith, so_far.4, steps.1.2),
      omega (arith, so_far.5, few),
      pushed c.loop-bytes.objects c.push.new.self (objects_of (numbered (node 0x1F guid) v (pieces 64 (leaves all guid leaf)))) (of count) _ c.in_ok-node.field-0 made c.in_ok-push.ensures.ok object
          (left ∙ ap (λ (l : List Object). made ∷ l) others) so_far.6,
    )

pub returns : goal.returns
returns c =
    let left = chunks_rest c.loop-bytes.bytes-iterator in
    let none : objects_of (numbered (node 0x1F c.args.guid) c.loop-bytes.value (pieces 64 (leaves left c.args.guid c.loop-bytes.leaf))) ≡ _
    = ap objects_of (nodes-nil 0x1F c.args.guid c.loop-bytes.leaf c.loop-bytes.value left c.in-None.ensures.steps.1.0) in
    sym (append-nil c.loop-bytes.objects) ∙ ap (λ (l : List Object). c.loop-bytes.objects ++ l) (sym none) ∙ c.loop-bytes.invariant.6
