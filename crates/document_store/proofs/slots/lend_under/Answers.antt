use Rattle.std.proofs.Common.{None}
use Rattle.document_store.proofs.Filling.{put_found, push_found}
use Rattle.document_store.proofs.slots.lend_under.Goals as goal

pub returns-in-Some-clause-lent : goal.returns-in-Some-clause-lent
returns-in-Some-clause-lent c = put_found c.args.name.now None c.args.slots.now.items c.deref.result.now c.slot_of.result c.in-Some.at c.index_mut.result.now c.in-Some.is c.slot_of.ensures c.deref.ensures.value c.index_mut.ensures.value

pub returns-clause-lent : goal.returns-clause-lent
returns-clause-lent c =
    push_found c.args.name.now c.in_ok-name.name c.args.slots.now.items c.deref.result.now c.push.new.self.items c.slot_of.result c.in_default.is c.slot_of.ensures c.deref.ensures.value c.utf8.name
    c.in_ok-name.ensures c.in_ok-push.ensures.items
