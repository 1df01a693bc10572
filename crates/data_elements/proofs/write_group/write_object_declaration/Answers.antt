use Rattle.std.proofs.Common.{◌++◌}
use Rattle.compact_values.specs.Compact.{compact}
use Rattle.compact_values.specs.Ids.{exguid}
use Rattle.data_elements.proofs.Writing.{same_kept, err_kept, told, then_is}
use Rattle.data_elements.proofs.write_group.write_object_declaration.Goals as goal

pub returns-in_err-write_compact-2-clause-err : goal.returns-in_err-write_compact-2-clause-err
returns-in_err-write_compact-2-clause-err c =
    let o = c.args.object.now in
    let both = then_is c.args.out.now c.write_exguid.new.out c.write_compact.new.out (exguid o.id) (compact o.partition) c.in_ok-write_exguid.ensures.ok c.in_ok-write_compact.ensures.ok in
    told c.from_residual-in_err-write_compact-2.result (same_kept c.args.out.now c.write_compact.new.out c.write_compact-2.new.out (exguid o.id ++ compact o.partition) both c.in_err-write_compact-2.ensures.err)

pub returns-clause-err : goal.returns-clause-err
returns-clause-err c =
    let o = c.args.object.now in
    let both = then_is c.args.out.now c.write_exguid.new.out c.write_compact.new.out (exguid o.id) (compact o.partition) c.in_ok-write_exguid.ensures.ok c.in_ok-write_compact.ensures.ok in
    let three = then_is c.args.out.now c.write_compact.new.out c.write_compact-2.new.out (exguid o.id ++ compact o.partition) (compact o.size) both c.in_ok-write_compact-2.ensures.ok in
    err_kept c.write_counts.result c.args.out.now c.write_compact-2.new.out c.write_counts.new.out (exguid o.id ++ compact o.partition ++ compact o.size) three c.write_counts.ensures.err
