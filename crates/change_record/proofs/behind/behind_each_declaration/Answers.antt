use Rattle.std.proofs.Common.{ℕ, List, ◌++◌, ap, ◌∙◌}
use Rattle.doc_model.specs.wire.WrittenElements.{declaration_bytes}
use Rattle.change_record.proofs.Pieces.{not_this}
use Rattle.change_record.proofs.behind.behind_each_declaration.Goals as goal

pub returns-in-None : goal.returns-in-None
returns-in-None c =
    not_this declaration_bytes c.args.objects.now c.loop-object.object-index c.object-item.result c.loop-object-test.true c.object-item.is c.args.bytes.now c.loop-object.rest.now _ c.loop-object.invariant
    (c.in_ok-write_declaration.ensures ∙ ap (λ (l : List ℕ). l ++ declaration_bytes c.object-item.result) c.truncate.ensures) c.in-None.ensures
