use Rattle.std.proofs.Common.{ℕ, List, ◌++◌, ap, ◌∙◌}
use Rattle.change_record.specs.Behind.{data_front}
use Rattle.change_record.proofs.Pieces.{both, not_first, data_parts, left}
use Rattle.change_record.proofs.behind.behind_inline.Goals as goal

pub returns-in_default : goal.returns-in_default
returns-in_default c =
    let front = data_front c.args.object.now c.args.content.now in
    let piece = c.in_ok-write_data_front.ensures ∙ ap (λ (l : List ℕ). l ++ front) c.truncate.ensures in
    rw (data_parts c.args.object.now c.args.content.now c.requires) (not_first front c.args.content.now c.args.bytes.now (rw piece at c.in_default.ensures))

pub returns : goal.returns
returns c =
    let front = data_front c.args.object.now c.args.content.now in
    let piece = c.in_ok-write_data_front.ensures ∙ ap (λ (l : List ℕ). l ++ front) c.truncate.ensures in
    rw (data_parts c.args.object.now c.args.content.now c.requires) (both front c.args.content.now c.args.bytes.now c.in-Some.rest.now (left c.behind-2.result) (rw piece at c.in-Some.ensures) c.behind-2.ensures)
