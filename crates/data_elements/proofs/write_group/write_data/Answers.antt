use Rattle.std.proofs.Common.{false}
use Rattle.stream_objects.specs.Headers.{written_start}
use Rattle.data_elements.proofs.Writing.{err_kept}
use Rattle.data_elements.proofs.write_group.write_data.Goals as goal

pub returns-clause-err : goal.returns-clause-err
returns-clause-err c =
    err_kept c.write_data_fields.result c.args.out.now c.start.new.out c.write_data_fields.new.out (written_start c.data_kind.result false c.data_size-size.result) c.in_ok-start.ensures.ok c.write_data_fields.ensures.err
