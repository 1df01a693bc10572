use Rattle.std.proofs.Common.{◌≡◌, ◌+◌, ◌++◌, sym, ◌∙◌, ap, nat_lt, List, map}
use Rattle.std.proofs.lemmas.List.Elements.{filter-append}
use Rattle.std.proofs.lemmas.List.Sums.{sum_by-append}
use Rattle.compact_values.specs.declared.ids.ExGuid.{ExGuid}
use Rattle.doc_model.specs.declared.element.Element.{Element}
use Rattle.doc_model.specs.declared.element.Name.{Name}
use Rattle.doc_model.specs.rules.Limits.{most_reached_weight}
use Rattle.doc_model.specs.rules.Reached.{is_among, names}
use Rattle.doc_model.specs.rules.Weights.{weight, weight_of}
use Rattle.plain_core.specs.Cataloging.{listed}
use Rattle.plain_core.specs.Reaching.{among}
use Rattle.plain_core.proofs.reaching.is_heavy.Goals as goal

weight-both : (ids : List ExGuid) (front back : List Element) → weight_of (among ids front) + weight_of (among ids back) ≡ weight_of (among ids (front ++ back))
weight-both ids front back =
    sym (ap (λ es. weight_of es) (filter-append (λ e. is_among ids e.id) front back) ∙ sum_by-append weight (among ids front) (among ids back))

pub returns : goal.returns
returns c =
    let added = listed c.args.catalog.now in
    let front = c.args.catalog.now.added.now in
    let back = c.args.catalog.now.fresh in
    c.weigh_more.ensures
    ∙ ap (λ es. nat_lt most_reached_weight (weight_of (among c.in_ok-ids.ids es) + weight_of (among c.in_ok-ids.ids c.fresh.result.now))) c.added.ensures
    ∙ ap (λ es. nat_lt most_reached_weight (weight_of (among c.in_ok-ids.ids front) + weight_of (among c.in_ok-ids.ids es))) c.fresh.ensures
    ∙ ap (λ n. nat_lt most_reached_weight n) (weight-both c.in_ok-ids.ids front back)
    ∙ ap (λ is. nat_lt most_reached_weight (weight_of (among is added))) c.in_ok-ids.ensures
