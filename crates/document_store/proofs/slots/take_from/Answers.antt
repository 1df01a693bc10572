use Rattle.std.proofs.Common.{subst, ap, ◌∙◌, slice_set, None}
use Rattle.document_store.specs.Shelves.{IsStanding}
use Rattle.document_store.specs.MemStores.{content_of, shelf_of}
use Rattle.document_store.specs.declared.slot.Slot.{Slot}
use Rattle.document_store.proofs.Filling.{not_found, put_found, stands_found}
use Rattle.document_store.proofs.slots.take_from.Goals as goal

pub unreachable-requires : goal.unreachable-requires
unreachable-requires c = subst IsStanding (not_found c.args.name.now c.args.slots.now.items c.deref.result.now c.slot_of.result c.in_default.is c.slot_of.ensures c.deref.ensures.value) c.requires

pub take_disk-requires : goal.take_disk-requires
take_disk-requires c =
    subst IsStanding (stands_found c.args.name.now c.args.slots.now.items c.deref.result.now c.slot_of.result c.in-Some.at c.index_mut.result.now c.in-Some.is c.slot_of.ensures c.deref.ensures.value c.index_mut.ensures.value) c.requires

pub returns-clause-stood : goal.returns-clause-stood
returns-clause-stood c =
    stands_found c.args.name.now c.args.slots.now.items c.deref.result.now c.slot_of.result c.in-Some.at c.index_mut.result.now c.in-Some.is c.slot_of.ensures c.deref.ensures.value c.index_mut.ensures.value
    ∙ ap content_of c.take_disk.ensures.disk

pub returns-clause-lent : goal.returns-clause-lent
returns-clause-lent c =
    ap (λ (s : Slot). shelf_of (slice_set c.args.slots.now.items c.in-Some.at s)) c.take_disk.ensures.lent
    ∙ put_found c.args.name.now None c.args.slots.now.items c.deref.result.now c.slot_of.result c.in-Some.at c.index_mut.result.now c.in-Some.is c.slot_of.ensures c.deref.ensures.value c.index_mut.ensures.value
