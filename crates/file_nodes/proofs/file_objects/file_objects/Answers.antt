use Rattle.std.proofs.Common.{◌≡◌, ◌+◌, List, [], ◌∷◌, ◌++◌, length, ap, ◌∙◌, arith}
use Rattle.doc_model.specs.declared.element.Object.{Object}
use Rattle.file_nodes.specs.Chunking.{objects_of, levels, file_objects}
use Rattle.file_nodes.proofs.ChunkLaws.{root_is, length-file_objects}
use Rattle.file_nodes.proofs.file_objects.file_objects.Goals as goal

pub returns : goal.returns
returns c =
    let bytes = c.args.file.now in
    let guid = c.args.guid in
    let v = c.args.first in
    let root = c.in_ok-node.ensures ∙ root_is bytes guid v c.in_ok-references.references c.requires.short c.in_ok-references.ensures in
    let others = objects_of (levels bytes guid (v + 1)).all in
    let all : c.push_levels.new.objects ≡ file_objects bytes guid v
    = c.in_ok-push_levels.ensures
    ∙ ap (λ (l : List Object). l ++ others) (c.in_ok-push.ensures.ok ∙ ap (λ (l : List Object). l ++ c.in_ok-node.field-0 ∷ []) c.new-objects.ensures)
    ∙ ap (λ (o : Object). o ∷ others) root in
    record { objects = all; few = omega (arith, ap length all, length-file_objects bytes guid v c.requires.short) }
