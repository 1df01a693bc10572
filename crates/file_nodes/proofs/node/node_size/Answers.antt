use Rattle.std.proofs.Common.{◌≡◌, ◌≢◌, ℕ, None, length, sym, ap, ◌∙◌, arith}
use Rattle.std.proofs.lemmas.Result.{IfOk-weaker}
use Rattle.doc_model.specs.rules.Nodes.{node_size}
use Rattle.stream_objects.specs.declared.tree.Tree.{Tree}
use Rattle.stream_objects.specs.declared.fault.TreeFault.TheVariants as faults
use Rattle.file_nodes.proofs.NodeReading.{whole_node, no_node}
use Rattle.file_nodes.proofs.node.node_size.Goals as goal

pub returns-then-next-bytes : goal.returns-then-next-bytes
returns-then-next-bytes c = c.size_of_node.ensures ∙ sym (whole_node c.args.bytes.now c.read_tree.result c.read_tree.ensures.found c.in-Ok.tree c.in-Ok.next c.in-Ok.is c.if-next-bytes.true)

pub returns-in-Ok : goal.returns-in-Ok
returns-in-Ok c =
    no_node c.args.bytes.now c.read_tree.result c.read_tree.ensures.found (λ i. omega (arith, c.type_inv.bytes i))
    (λ tree e.
    let pair : (c.in-Ok.tree, c.in-Ok.next) ≡ (tree, length c.args.bytes.now) = cc (c.in-Ok.is, e) in
    c.if-next-bytes.false (ap (λ (p : Tree × ℕ). p.1) pair))
    (λ e. cc (c.in-Ok.is, e))

pub returns : goal.returns
returns c =
    IfOk-weaker c.no_tree.result (λ size. (size ≡ None) × (c.in-Err.fault ≢ faults.NoMemory)) (λ size. size ≡ node_size c.args.bytes.now)
    (λ size h.
    h.0 ∙ no_node c.args.bytes.now c.read_tree.result c.read_tree.ensures.found (λ i. omega (arith, c.type_inv.bytes i)) (λ tree e. cc (c.in-Err.is, e)) (λ e. h.1 (cc (c.in-Err.is, e))))
    c.no_tree.ensures
