use Rattle.std.proofs.Common.{◌++◌, Some, None}
use Rattle.stream_objects.specs.Headers.{written_end}
use Rattle.doc_model.specs.wire.WrittenElements.{declarations_bytes, datas_bytes}
use Rattle.change_record.proofs.Pieces.{both, not_first, then_both}
use Rattle.change_record.proofs.behind.behind_objects.Goals as goal

pub returns-in_default-2 : goal.returns-in_default-2
returns-in_default-2 c =
    let first = declarations_bytes c.args.objects.now in
    let second = datas_bytes c.args.objects.now in
    not_first (first ++ second) (written_end 0x01) c.args.bytes.now
    (both first second c.args.bytes.now c.in-Some.rest.now None (rw c.in-Some.is at c.in_ok-rest.ensures) (rw c.in_default-2.is at c.in_ok-rest-2.ensures))

pub returns : goal.returns
returns c =
    let first = declarations_bytes c.args.objects.now in
    let second = datas_bytes c.args.objects.now in
    let there = both first second c.args.bytes.now c.in-Some.rest.now (Some c.in-Some-2.rest.now) (rw c.in-Some.is at c.in_ok-rest.ensures) (rw c.in-Some-2.is at c.in_ok-rest-2.ensures) in
    then_both (first ++ second) (written_end 0x01) c.args.bytes.now c.in-Some-2.rest.now c.behind_end.result there c.behind_end.ensures
