use Rattle.std.proofs.Common.{map, rules}
use Rattle.std.specs.List.{IsDistinct}
use Rattle.compact_values.specs.SameIds.{same_id}
use Rattle.doc_model.proofs.Distinct.{distinct-none}
use Rattle.element_store.proofs.store.ElementStore.new.Goals as goal

pub invariant_of-result : goal.invariant_of-result
invariant_of-result c =
    let none : IsDistinct same_id (map (λ e. e.id) c.new.result.items) = rw c.new.ensures.items (distinct-none same_id) in
    (search rules, search rules, search rules, none)
