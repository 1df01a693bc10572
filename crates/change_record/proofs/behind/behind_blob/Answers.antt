use Rattle.std.proofs.Common.{ℕ, List, ◌++◌, None, ap, ◌∙◌}
use Rattle.stream_objects.specs.Headers.{written_end}
use Rattle.change_record.specs.Behind.{blob_front}
use Rattle.change_record.proofs.Pieces.{both, not_first, then_both, blob_parts}
use Rattle.change_record.proofs.behind.behind_blob.Goals as goal

pub returns-in_default : goal.returns-in_default
returns-in_default c =
    let front = blob_front c.args.id c.args.content.now in
    let piece = c.in_ok-write_blob_front.ensures ∙ ap (λ (l : List ℕ). l ++ front) c.truncate.ensures in
    rw (blob_parts c.args.id c.args.content.now) (not_first front (c.args.content.now ++ written_end 0x01) c.args.bytes.now (rw piece at c.in_default.ensures))

pub returns-in_default-behind : goal.returns-in_default-behind
returns-in_default-behind c =
    let front = blob_front c.args.id c.args.content.now in
    let piece = c.in_ok-write_blob_front.ensures ∙ ap (λ (l : List ℕ). l ++ front) c.truncate.ensures in
    rw (blob_parts c.args.id c.args.content.now)
    (both front (c.args.content.now ++ written_end 0x01) c.args.bytes.now c.in-Some.rest.now None (rw piece at c.in-Some.ensures) (not_first c.args.content.now (written_end 0x01) c.in-Some.rest.now c.in_default-behind.ensures))

pub returns : goal.returns
returns c =
    let front = blob_front c.args.id c.args.content.now in
    let piece = c.in_ok-write_blob_front.ensures ∙ ap (λ (l : List ℕ). l ++ front) c.truncate.ensures in
    rw (blob_parts c.args.id c.args.content.now)
    (then_both front (c.args.content.now ++ written_end 0x01) c.args.bytes.now c.in-Some.rest.now c.behind_end.result (rw piece at c.in-Some.ensures)
    (then_both c.args.content.now (written_end 0x01) c.in-Some.rest.now c.in-Some-behind.rest.now c.behind_end.result c.in-Some-behind.ensures c.behind_end.ensures))
