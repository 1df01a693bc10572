use Rattle.std.proofs.Common.{◌++◌}
use Rattle.compact_values.specs.Compact.{compact}
use Rattle.compact_values.specs.Ids.{exguid}
use Rattle.doc_model.specs.wire.WrittenElements.{size_if_any}
use Rattle.data_elements.proofs.Writing.{same_kept, err_kept, told, then_is}
use Rattle.data_elements.proofs.write_group.write_blob_declaration.Goals as goal

pub returns-in_err-write_compact-clause-err : goal.returns-in_err-write_compact-clause-err
returns-in_err-write_compact-clause-err c =
    let o = c.args.object.now in
    let b = c.args.blob.now in
    let two = then_is c.args.out.now c.write_exguid.new.out c.write_exguid-2.new.out (exguid o.id) (exguid b) c.in_ok-write_exguid.ensures.ok c.in_ok-write_exguid-2.ensures.ok in
    told c.from_residual-in_err-write_compact.result (same_kept c.args.out.now c.write_exguid-2.new.out c.write_compact.new.out (exguid o.id ++ exguid b) two c.in_err-write_compact.ensures.err)

pub returns-in_err-write_size_if_any-clause-err : goal.returns-in_err-write_size_if_any-clause-err
returns-in_err-write_size_if_any-clause-err c =
    let o = c.args.object.now in
    let b = c.args.blob.now in
    let two = then_is c.args.out.now c.write_exguid.new.out c.write_exguid-2.new.out (exguid o.id) (exguid b) c.in_ok-write_exguid.ensures.ok c.in_ok-write_exguid-2.ensures.ok in
    let three = then_is c.args.out.now c.write_exguid-2.new.out c.write_compact.new.out (exguid o.id ++ exguid b) (compact o.partition) two c.in_ok-write_compact.ensures.ok in
    told c.from_residual-in_err-write_size_if_any.result (same_kept c.args.out.now c.write_compact.new.out c.write_size_if_any.new.out (exguid o.id ++ exguid b ++ compact o.partition) three c.in_err-write_size_if_any.ensures.err)

pub returns-clause-err : goal.returns-clause-err
returns-clause-err c =
    let o = c.args.object.now in
    let b = c.args.blob.now in
    let two = then_is c.args.out.now c.write_exguid.new.out c.write_exguid-2.new.out (exguid o.id) (exguid b) c.in_ok-write_exguid.ensures.ok c.in_ok-write_exguid-2.ensures.ok in
    let three = then_is c.args.out.now c.write_exguid-2.new.out c.write_compact.new.out (exguid o.id ++ exguid b) (compact o.partition) two c.in_ok-write_compact.ensures.ok in
    let four = then_is c.args.out.now c.write_compact.new.out c.write_size_if_any.new.out (exguid o.id ++ exguid b ++ compact o.partition) (size_if_any o.size) three c.in_ok-write_size_if_any.ensures.ok in
    err_kept c.write_counts.result c.args.out.now c.write_size_if_any.new.out c.write_counts.new.out (exguid o.id ++ exguid b ++ compact o.partition ++ size_if_any o.size) four c.write_counts.ensures.err
