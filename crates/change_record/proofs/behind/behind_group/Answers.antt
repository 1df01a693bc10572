use Rattle.std.proofs.Common.{ℕ, List, ◌++◌, ap, ◌∙◌}
use Rattle.stream_objects.specs.Headers.{written_end}
use Rattle.doc_model.specs.wire.WrittenElements.{declarations_bytes, datas_bytes}
use Rattle.change_record.specs.Behind.{element_head}
use Rattle.change_record.proofs.Pieces.{not_first, then_both, group_parts}
use Rattle.change_record.proofs.behind.behind_group.Goals as goal

pub returns-in_default : goal.returns-in_default
returns-in_default c =
    let objects = (declarations_bytes c.args.objects.now ++ datas_bytes c.args.objects.now) ++ written_end 0x01 in
    let head = c.in_ok-write_element_head.ensures ∙ ap (λ (l : List ℕ). l ++ element_head c.args.id 5) c.truncate.ensures in
    rw (group_parts c.args.id c.args.objects.now) (not_first (element_head c.args.id 5) objects c.args.bytes.now (rw head at c.in_default.ensures))

pub returns : goal.returns
returns c =
    let objects = (declarations_bytes c.args.objects.now ++ datas_bytes c.args.objects.now) ++ written_end 0x01 in
    let head = c.in_ok-write_element_head.ensures ∙ ap (λ (l : List ℕ). l ++ element_head c.args.id 5) c.truncate.ensures in
    rw (group_parts c.args.id c.args.objects.now) (then_both (element_head c.args.id 5) objects c.args.bytes.now c.in-Some.rest.now c.behind_objects.result (rw head at c.in-Some.ensures) c.behind_objects.ensures)
