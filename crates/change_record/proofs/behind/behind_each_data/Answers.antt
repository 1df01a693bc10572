use Rattle.std.proofs.Common.{refl}
use Rattle.doc_model.specs.wire.WrittenElements.{data_bytes}
use Rattle.change_record.proofs.Pieces.{not_this}
use Rattle.change_record.proofs.behind.behind_each_data.Goals as goal

pub returns-in-None : goal.returns-in-None
returns-in-None c =
    not_this data_bytes c.args.objects.now c.loop-object.object-index c.object-item.result c.loop-object-test.true c.object-item.is c.args.bytes.now c.loop-object.rest.now _ c.loop-object.invariant refl
    (rw c.in-None.is at c.in_ok-more.ensures)
