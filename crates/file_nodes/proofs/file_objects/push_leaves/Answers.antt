use Rattle.std.proofs.Common.{◌≡◌, ◌+◌, ◌++◌, ℕ, min, List, length, sym, ap, ◌∙◌, rules, arith}
use Rattle.std.specs.Slice.Iter.{chunks_rest}
use Rattle.std.proofs.lemmas.List.{append-nil, length-append}
use Rattle.doc_model.specs.declared.element.Object.{Object}
use Rattle.file_nodes.specs.Chunking.{objects_of, leaves}
use Rattle.file_nodes.proofs.ChunkLaws.{leaves-front, leaves-nil, pushed}
use Rattle.file_nodes.proofs.file_objects.push_leaves.Goals as goal

pub loop-bytes-preserved : goal.loop-bytes-preserved
loop-bytes-preserved c =
    let so_far = c.loop-bytes.invariant in
    let steps = c.in-Some.ensures.steps in
    let rest = chunks_rest c.next.new.self in
    let all = chunks_rest c.loop-bytes.bytes-iterator in
    let front = c.in-Some.bytes.now in
    let v = c.loop-bytes.value in
    let size : length front ≡ min 65536 (length all) = steps.1.1 ∙ ap (λ (n : ℕ). min n (length all)) so_far.2 in
    let sum : length all ≡ length front + length rest = ap length steps.1.0 ∙ length-append front rest in
    let one : objects_of (leaves all c.args.guid v) ≡ _ = leaves-front c.args.guid v all front rest steps.1.0 size steps.1.2 in (
      search rules,
      tt,
      steps.0 ∙ so_far.2,
      omega (arith, so_far.3, steps.1.2),
      pushed c.loop-bytes.objects c.push.new.self (objects_of (leaves all c.args.guid v)) (objects_of (leaves rest c.args.guid (v + 1))) _ c.in_ok-leaf.field-0 _ c.in_ok-push.ensures.ok c.in_ok-leaf.ensures one so_far.4,
    )

pub returns : goal.returns
returns c =
    let left = chunks_rest c.loop-bytes.bytes-iterator in
    let none : objects_of (leaves left c.args.guid c.loop-bytes.value) ≡ _ = ap objects_of (leaves-nil left c.args.guid c.loop-bytes.value c.in-None.ensures.steps.1.0) in
    sym (append-nil c.loop-bytes.objects) ∙ ap (λ (l : List Object). c.loop-bytes.objects ++ l) (sym none) ∙ c.loop-bytes.invariant.4
