use Rattle.std.proofs.Common.{◌++◌}
use Rattle.compact_values.specs.Ids.{exguid, cell_id}
use Rattle.compact_values.specs.Items.{array}
use Rattle.data_elements.proofs.Writing.{same_kept, err_same, told, then_is}
use Rattle.data_elements.proofs.write_group.write_data_fields.Goals as goal

pub returns-in_err-write_cells-clause-err : goal.returns-in_err-write_cells-clause-err
returns-in_err-write_cells-clause-err c =
    told c.from_residual-in_err-write_cells.result (same_kept c.args.out.now c.write_ids.new.out c.write_cells.new.out (array exguid c.as_slice.result.now) c.in_ok-write_ids.ensures.ok c.in_err-write_cells.ensures.err)

pub returns-in-Inline-clause-err : goal.returns-in-Inline-clause-err
returns-in-Inline-clause-err c =
    let ids = array exguid c.as_slice.result.now in
    let cells = array cell_id c.as_slice-2.result.now in
    let both = then_is c.args.out.now c.write_ids.new.out c.write_cells.new.out ids cells c.in_ok-write_ids.ensures.ok c.in_ok-write_cells.ensures.ok in
    err_same c.write_item.result c.args.out.now c.write_cells.new.out c.write_item.new.out (ids ++ cells) both c.write_item.ensures.err
