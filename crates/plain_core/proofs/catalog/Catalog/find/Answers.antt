use Rattle.std.proofs.Common.{◌≡◌, ◌++◌, sym, ◌∙◌, ap, None, Some, map, option_and_then, slice_get}
use Rattle.compact_values.specs.IdPlaces.{place_of}
use Rattle.plain_core.specs.Cataloging.{listed}
use Rattle.plain_core.proofs.FoundPlaces.{place-found}
use Rattle.plain_core.proofs.catalog.Catalog.find.Goals as goal

pub returns-in-None : goal.returns-in-None
returns-in-None c =
    let id = c.args.id in
    let all = listed c.args.self.now in
    let none : place_of (map (λ e. e.id) all) id ≡ None = ap (λ ids. place_of ids id) (sym c.args.self.now.indexed) ∙ sym c.place.ensures ∙ c.in-None.is in
    ap (option_and_then (slice_get all)) (sym none) ∙ place-found all id

pub returns-in-Some : goal.returns-in-Some
returns-in-Some c =
    let id = c.args.id in
    let all = listed c.args.self.now in
    let place = c.in-Some.place in
    let there : place_of (map (λ e. e.id) all) id ≡ Some place = ap (λ ids. place_of ids id) (sym c.args.self.now.indexed) ∙ sym c.place.ensures ∙ c.in-Some.is in
    c.at.ensures ∙ ap (λ fresh. slice_get (c.args.self.now.added.now ++ fresh) place) c.as_slice.ensures ∙ ap (option_and_then (slice_get all)) (sym there)
    ∙ place-found all id
