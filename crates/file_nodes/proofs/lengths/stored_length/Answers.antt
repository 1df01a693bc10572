use Rattle.std.proofs.Common.{ℕ, List, length, Result, eqb, sym, ap, subst, ◌∙◌}
use Rattle.compact_values.specs.declared.ids.ExGuid.{ExGuid}
use Rattle.file_nodes.specs.FileAnswers.{IsOrNoMemory}
use Rattle.file_nodes.specs.declared.fault.NodeFault.{NodeFault}
use Rattle.file_nodes.proofs.LengthLaws.{length-at-node}
use Rattle.file_nodes.proofs.lengths.stored_length.Goals as goal

pub returns : goal.returns
returns c =
    let node = length-at-node c.args.objects.now c.args.root c.place_in-place.result c.in-Some.top.now (c.place_in-place.ensures ∙ c.in-Ok.ensures c.args.root) c.in-Some.ensures.lookup.3.0 c.in-Some.ensures.lookup.1
    (sym (c.if-is_empty.ensures ∙ ap (λ (ids : List ExGuid). eqb (length ids) 0) c.references.ensures)) in
    subst (λ (a : Result ℕ NodeFault). IsOrNoMemory c.length_of_node.result a) node c.length_of_node.ensures
