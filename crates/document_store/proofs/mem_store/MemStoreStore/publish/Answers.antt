use Rattle.std.proofs.Common.{◌∙◌, ap, List}
use Rattle.document_store.specs.Shelves.{Lent, put}
use Rattle.document_store.specs.MemStores.{MemLent, StoreState, shelf_of}
use Rattle.document_store.specs.declared.slot.Slot.{Slot}
use Rattle.document_store.proofs.Filling.{left_inside}
use Rattle.document_store.proofs.mem_store.MemStoreStore.publish.Goals as goal

pub returns-in-Ok-clause-crash : goal.returns-in-Ok-clause-crash
returns-in-Ok-clause-crash c =
    left_inside c.args.name.now (shelf_of c.args.self.now.slots) (shelf_of c.lend_under.new.slots.items)
    (c.in-Ok.ensures.lent
    ∙ ap (λ (l : List Slot). put {D = MemLent} c.args.name.now Lent (shelf_of l)) (ap (λ (s : StoreState). s.slots) c.self.view_is ∙ c.in_ok-count_call.ensures.same.1))
