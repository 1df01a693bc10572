use Rattle.std.proofs.Common.{length}
use Rattle.compact_values.specs.Compact.{compact}
use Rattle.compact_values.proofs.Appending.{cut_back}
use Rattle.compact_values.proofs.arrays.write_cells.Goals as goal

pub returns-then-is_err-clause-err : goal.returns-then-is_err-clause-err
returns-then-is_err-clause-err c =
    cut_back c.write_each_cell-written.result c.args.out.now c.write_compact.new.out c.write_each_cell-written.new.out c.truncate.new.self (compact (length c.args.cells.now)) c.len-before.result
    c.len-before.ensures c.in_ok-write_compact.ensures.ok c.write_each_cell-written.ensures.err c.truncate.ensures
