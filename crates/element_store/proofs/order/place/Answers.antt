use Rattle.std.proofs.Common.{◌≡◌, ◌<◌, ◌≤◌, sym, ◌∙◌, ap, true, false, length, get_or, Some, None, cond, arith}
use Rattle.std.proofs.lemmas.Bool.Decides.{nat_tests}
use Rattle.compact_values.specs.SameIds.{same_id}
use Rattle.element_store.specs.Ordered.{id_at, rank_in}
use Rattle.element_store.proofs.Ranks.{placed-none, placed-at}
use Rattle.element_store.proofs.order.place.Goals as goal

pub returns-in-None-clause-place : goal.returns-in-None-clause-place
returns-in-None-clause-place c =
    let at = id_at c.args.elements.now in
    let l : length c.args.order.now ≤ rank_in at c.args.order.now c.args.id = grind (arith, nat_tests, c.get.ensures.lookup, c.rank.ensures.rank) in
    sym (placed-none at c.args.order.now c.args.id c.requires.ordered l) ∙ c.requires.found c.args.id

pub returns-then-is-clause-place : goal.returns-then-is-clause-place
returns-then-is-clause-place c =
    let at = id_at c.args.elements.now in
    let p = c.in-Some.place.now in
    let l : rank_in at c.args.order.now c.args.id < length c.args.order.now = grind (arith, nat_tests, c.in-Some.ensures.lookup, c.rank.ensures.rank) in
    let same : same_id (at p) c.args.id ≡ true = ap (λ i. same_id i c.args.id) (sym c.id_at.ensures) ∙ sym c.is.ensures ∙ c.if-is.true in
    sym (placed-at at c.args.order.now c.args.id p c.requires.ordered l (c.in-Some.ensures.lookup.1 ∙ ap (λ n. get_or c.args.order.now n p) c.rank.ensures.rank)
    ∙ ap (λ b. cond b (Some p) None) same)
    ∙ c.requires.found c.args.id

pub returns-else-is-clause-place : goal.returns-else-is-clause-place
returns-else-is-clause-place c =
    let at = id_at c.args.elements.now in
    let p = c.in-Some.place.now in
    let l : rank_in at c.args.order.now c.args.id < length c.args.order.now = grind (arith, nat_tests, c.in-Some.ensures.lookup, c.rank.ensures.rank) in
    let other : same_id (at p) c.args.id ≡ false = ap (λ i. same_id i c.args.id) (sym c.id_at.ensures) ∙ sym c.is.ensures ∙ c.if-is.false in
    sym (placed-at at c.args.order.now c.args.id p c.requires.ordered l (c.in-Some.ensures.lookup.1 ∙ ap (λ n. get_or c.args.order.now n p) c.rank.ensures.rank)
    ∙ ap (λ b. cond b (Some p) None) other)
    ∙ c.requires.found c.args.id
