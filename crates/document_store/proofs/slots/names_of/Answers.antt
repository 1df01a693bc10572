use Rattle.document_store.proofs.Filling.{none_listed, listed_more}
use Rattle.document_store.proofs.slots.names_of.Goals as goal

pub loop-slot-init : goal.loop-slot-init
loop-slot-init c = record {
  ascending = c.no_names-names.ensures.ascending;
  all = none_listed c.no_names-names.result.items c.no_names-names.ensures.none;
}

pub loop-slot-preserved : goal.loop-slot-preserved
loop-slot-preserved c = record {
  ascending = c.in_ok-add_name.ensures.ascending;
  all = listed_more c.args.slots.now c.loop-slot.slot-index c.slot-item.result c.loop-slot.names.items c.add_name.new.names.items c.in_ok-copied.field-0 c.loop-slot-test.true c.slot-item.is c.in_ok-copied.ensures
      c.loop-slot.invariant.all c.in_ok-add_name.ensures.added;
}
