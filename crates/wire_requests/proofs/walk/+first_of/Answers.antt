use Rattle.std.proofs.Common.{◌≡◌, ◌-◌, drop, [], sym, ap, ◌∙◌}
use Rattle.std.proofs.lemmas.List.{drop_all}
use Rattle.wire_requests.specs.WalkReading.{first_of, first_by}
use Rattle.wire_requests.proofs.WalkLaws.{walked, found_at}
use Rattle.wire_requests.proofs.walk.+first_of.Goals as goal

pub returns-in-Some : goal.returns-in-Some
returns-in-Some t c =
    let f = first_of (c.args.levels - 1) c.args.kind in
    sym (walked c.args.levels c.args.kind c.args.tree.now c.if-levels-eq0.false c.if-tree-kind.false ∙ ap (first_by f) (sym c.as_slice-child-items.ensures) ∙ sym c.loop-child.invariant
    ∙ found_at f c.as_slice-child-items.result.now c.loop-child.child-index c.child-item.result c.in-Some.found.now c.loop-child-test.true c.child-item.is c.in-Some.ensures)

pub returns : goal.returns
returns t c =
    let f = first_of (c.args.levels - 1) c.args.kind in
    let none : drop c.loop-child.child-index c.as_slice-child-items.result.now ≡ [] = drop_all c.loop-child.child-index c.as_slice-child-items.result.now c.loop-child-test.false in
    sym (walked c.args.levels c.args.kind c.args.tree.now c.if-levels-eq0.false c.if-tree-kind.false ∙ ap (first_by f) (sym c.as_slice-child-items.ensures) ∙ sym c.loop-child.invariant ∙ ap (first_by f) none)
