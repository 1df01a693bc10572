use Rattle.std.proofs.Common.{◌++◌, ◌+◌, false, arith}
use Rattle.std.proofs.lemmas.List.{length-append}
use Rattle.compact_values.specs.Compact.{compact}
use Rattle.compact_values.specs.Ids.{guid_spelling}
use Rattle.compact_values.proofs.Appending.{appended}
use Rattle.stream_objects.specs.Headers.{written_start}
use Rattle.doc_model.specs.wire.WrittenElements.{range_bytes}
use Rattle.data_elements.proofs.Writing.{same_kept, err_same, told, then_is, started_on}
use Rattle.data_elements.proofs.write.append_range.Goals as goal

pub returns-in_err-write_compact-clause-err : goal.returns-in_err-write_compact-clause-err
returns-in_err-write_compact-clause-err c =
    let r = c.args.range.now in
    let s = written_start 0x0F false (16 + c.compact_size.result + c.compact_size-2.result) in
    let both = then_is c.args.out.now c.start.new.out c.write_guid.new.out s (guid_spelling r.guid) c.in_ok-start.ensures.ok c.in_ok-write_guid.ensures.ok in
    told c.from_residual-in_err-write_compact.result (same_kept c.args.out.now c.write_guid.new.out c.write_compact.new.out (s ++ guid_spelling r.guid) both c.in_err-write_compact.ensures.err)

pub returns-clause-ok : goal.returns-clause-ok
unfolding range_bytes
returns-clause-ok c =
    let r = c.args.range.now in
    let g = guid_spelling r.guid in
    let n = 16 + c.compact_size.result + c.compact_size-2.result in
    let both = then_is c.start.new.out c.write_guid.new.out c.write_compact.new.out g (compact r.from) c.in_ok-write_guid.ensures.ok c.in_ok-write_compact.ensures.ok in
    let all = appended c.write_compact-2.result c.start.new.out c.write_compact.new.out c.write_compact-2.new.out (g ++ compact r.from) (compact r.to) both c.write_compact-2.ensures.ok in
    started_on c.write_compact-2.result c.args.out.now c.start.new.out c.write_compact-2.new.out (g ++ compact r.from ++ compact r.to) 0x0F false n
    (omega (arith, length-append (g ++ compact r.from) (compact r.to), length-append g (compact r.from), c.compact_size.ensures.length, c.compact_size-2.ensures.length)) c.in_ok-start.ensures.ok all

pub returns-clause-err : goal.returns-clause-err
returns-clause-err c =
    let r = c.args.range.now in
    let s = written_start 0x0F false (16 + c.compact_size.result + c.compact_size-2.result) in
    let g = guid_spelling r.guid in
    let both = then_is c.args.out.now c.start.new.out c.write_guid.new.out s g c.in_ok-start.ensures.ok c.in_ok-write_guid.ensures.ok in
    let three = then_is c.args.out.now c.write_guid.new.out c.write_compact.new.out (s ++ g) (compact r.from) both c.in_ok-write_compact.ensures.ok in
    err_same c.write_compact-2.result c.args.out.now c.write_compact.new.out c.write_compact-2.new.out (s ++ g ++ compact r.from) three c.write_compact-2.ensures.err
