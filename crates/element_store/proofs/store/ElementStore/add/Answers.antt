use Rattle.std.proofs.Common.{◌≡◌, None, map, length, sym, ◌∙◌, ap}
use Rattle.compact_values.specs.IdPlaces.{place_of}
use Rattle.doc_model.specs.rules.Finding.{find_element}
use Rattle.element_store.specs.Kept.{kept_weight, whole_weight}
use Rattle.element_store.specs.Ordered.{id_at, rank_in}
use Rattle.element_store.proofs.Joins.{grown-at}
use Rattle.element_store.proofs.Serials.{place-fresh, distinct-more}
use Rattle.element_store.proofs.Weighing.{kept-more, whole-more}
use Rattle.element_store.proofs.store.ElementStore.add.Goals as goal

-- the new element's place is put at its rank, its weight and the element at the end
pub invariant_of-self : goal.invariant_of-self
invariant_of-self c =
    let es = c.self.inside.elements.items in
    let ps = c.self.inside.order.items in
    let e = c.args.element in
    let new : find_element es e.id ≡ None = ap (λ xs. find_element xs e.id) (ap (λ s. s.elements) c.self.view_is) ∙ c.requires.fresh in
    let fresh : place_of (map (λ x. x.id) es) e.id ≡ None = place-fresh es e.id new in (
      grown-at es c.push_within-2.new.items.items ps c.insert_within.new.places.items e c.rank-rank.result c.len-place.result c.self.invariant.0 fresh
          c.push_within-2.ensures.items
          c.insert_within.ensures.items
          (c.rank-rank.ensures.rank
          ∙ ap (λ xs. rank_in (id_at xs) c.as_slice-2.result.now e.id) c.as_slice.ensures.value
          ∙ ap (λ xs. rank_in (id_at es) xs e.id) c.as_slice-2.ensures.value)
          (c.len-place.ensures ∙ sym c.as_slice.ensures.len ∙ ap length c.as_slice.ensures.value),
      (kept-more c.push_within.new.items.items c.self.inside.weights.items es e c.kept_weight-weight.result c.push_within.ensures.items c.self.invariant.1 c.kept_weight-weight.ensures
          ∙ ap (map kept_weight) (sym c.push_within-2.ensures.items)),
      (whole-more c.saturating_add-self-inside.result c.self.inside.whole es e c.kept_weight-weight.result c.saturating_add-self-inside.ensures c.self.invariant.2 c.kept_weight-weight.ensures
          ∙ ap whole_weight (sym c.push_within-2.ensures.items)),
      distinct-more c.push_within-2.new.items.items es e c.push_within-2.ensures.items c.self.invariant.3 new,
    )
