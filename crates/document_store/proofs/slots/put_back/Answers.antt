use Rattle.std.proofs.Common.{subst, ap, Some}
use Rattle.document_store.specs.Shelves.{IsLent}
use Rattle.document_store.proofs.Filling.{not_found, put_found}
use Rattle.document_store.proofs.slots.put_back.Goals as goal

pub unreachable-requires : goal.unreachable-requires
unreachable-requires c = subst IsLent (not_found c.args.name.now c.args.slots.now.items c.deref.result.now c.slot_of.result c.in_default.is c.slot_of.ensures c.deref.ensures.value) c.requires

pub returns : goal.returns
returns c = put_found c.args.name.now (Some c.args.disk) c.args.slots.now.items c.deref.result.now c.slot_of.result c.in-Some.at c.index_mut.result.now c.in-Some.is c.slot_of.ensures c.deref.ensures.value c.index_mut.ensures.value
