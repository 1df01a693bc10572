use Rattle.std.proofs.Common.{◌≡◌, ◌+◌, ◌-◌, List, map, None, Some, is_some, option_and_then, slice_get, sym, ◌∙◌, ap, arith}
use Rattle.compact_values.specs.IdPlaces.{place_of}
use Rattle.doc_model.specs.declared.element.Element.{Element}
use Rattle.element_store.proofs.Serials.{serial-place, element-place, place-there}
use Rattle.element_store.proofs.store.ElementStore.find.Goals as goal
use Rattle.element_store.proofs.store.ElementStore.find.Goals.{In-None, In-Some}

-- the place that is found is that among all elements
none : (c : In-None) → None ≡ place_of (map (λ e. e.id) c.args.self.now.elements) c.args.id.now
none c =
    sym c.in-None.is ∙ c.place.ensures.place
    ∙ ap (λ (es : List Element). place_of (map (λ e. e.id) es) c.args.id.now) (c.as_slice.ensures.value ∙ ap (λ s. s.elements) c.self.view_is)

some : (c : In-Some) → Some c.in-Some.place ≡ place_of (map (λ e. e.id) c.args.self.now.elements) c.args.id.now
some c =
    sym c.in-Some.is ∙ c.place.ensures.place
    ∙ ap (λ (es : List Element). place_of (map (λ e. e.id) es) c.args.id.now) (c.as_slice.ensures.value ∙ ap (λ s. s.elements) c.self.view_is)

pub returns-in-None-clause-serial : goal.returns-in-None-clause-serial
returns-in-None-clause-serial c = serial-place c.args.self.now.elements c.args.id.now None (none c)

pub returns-in-None-clause-there : goal.returns-in-None-clause-there
returns-in-None-clause-there c = ap is_some (none c) ∙ place-there c.args.self.now.elements c.args.id.now

pub returns-in-Some-clause-serial : goal.returns-in-Some-clause-serial
returns-in-Some-clause-serial c = serial-place c.args.self.now.elements c.args.id.now (Some c.in-Some.place) (some c)

pub returns-in-Some-clause-there : goal.returns-in-Some-clause-there
returns-in-Some-clause-there c = ap is_some (some c) ∙ place-there c.args.self.now.elements c.args.id.now

pub returns-in-Some-clause-element : goal.returns-in-Some-clause-element
returns-in-Some-clause-element c =
    let es = c.args.self.now.elements in
    let p : c.in-Some.place + 1 - 1 ≡ c.in-Some.place = omega arith in
    ap (slice_get es) p ∙ ap (option_and_then (slice_get es)) (some c) ∙ element-place es c.args.id.now
