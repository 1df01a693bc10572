use Rattle.std.proofs.Common.{false, refl}
use Rattle.stream_objects.specs.Headers.{written_start}
use Rattle.wire_kinds.proofs.Writing.{err_kept, row_written}
use Rattle.wire_kinds.specs.Row.{row_bytes}
use Rattle.wire_kinds.proofs.row.write_row.Goals as goal

pub returns-clause-ok : goal.returns-clause-ok
unfolding row_bytes
returns-clause-ok g c =
    row_written c.encode.result c.args.out.now c.start.new.out c.encode.new.out (g.R.Encode.kind.bytes c.args.value.now) c.args.number c.args.number c.size-size.result
    refl c.size-size.ensures c.if-size.false c.in_ok-start.ensures.ok c.encode.ensures.ok

pub returns-clause-err : goal.returns-clause-err
returns-clause-err g c =
    err_kept c.encode.result c.args.out.now c.start.new.out c.encode.new.out (written_start c.args.number false c.size-size.result) c.in_ok-start.ensures.ok c.encode.ensures.err
