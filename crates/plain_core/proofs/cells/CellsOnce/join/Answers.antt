use Rattle.std.proofs.Common.{◌≡◌, sym, ◌∙◌, ap, cond, Some, true, false, [], ◌∷◌, ◌++◌, is_some}
use Rattle.std.specs.BTreeMap.{get}
use Rattle.std.specs.List.{list_any}
use Rattle.std.specs.Ordering.{is_eq}
use Rattle.doc_model.specs.rules.Reached.{same_cells}
use Rattle.plain_core.specs.Keys.{cell_order}
use Rattle.plain_core.proofs.KeyedCells.{cell-joins}
use Rattle.plain_core.proofs.cells.CellsOnce.join.Goals as goal

-- one of its cell is there
pub returns-then-contains_key : goal.returns-then-contains_key
returns-then-contains_key c =
    let all = c.args.self.now in
    let map = c.args.map.now in
    let there : list_any (same_cells map) c.self.inside.maps ≡ true =
    sym (c.self.invariant map.cell) ∙ ap (λ k. is_some (get cell_order c.self.inside.known k)) (sym c.cell_key-key.ensures) ∙ sym c.contains_key.ensures ∙ c.if-contains_key.true in
    sym (ap (λ b. cond b all (all ++ map ∷ [])) (ap (list_any (same_cells map)) (sym c.self.view_is) ∙ there))

-- its cell joins the others
pub invariant_of-self-in-Ok : goal.invariant_of-self-in-Ok
invariant_of-self-in-Ok c =
    cell-joins c.self.inside.maps c.push.new.self c.args.map.now _ c.self.inside.known c.insert.new.self c.self.invariant c.in_ok-push.ensures.ok
    (λ q. c.in-Ok.ensures.updates.0 q ∙ ap (λ k. cond (is_eq (cell_order k q)) (Some _) (get cell_order c.self.inside.known q)) c.cell_key-key.ensures)

pub returns-in-Ok : goal.returns-in-Ok
returns-in-Ok c =
    let all = c.args.self.now in
    let map = c.args.map.now in
    let none : list_any (same_cells map) c.self.inside.maps ≡ false =
    sym (c.self.invariant map.cell) ∙ ap (λ k. is_some (get cell_order c.self.inside.known k)) (sym c.cell_key-key.ensures) ∙ sym c.contains_key.ensures ∙ c.if-contains_key.false in
    c.in_ok-push.ensures.ok
    ∙ ap (λ xs. xs ++ map ∷ []) c.self.view_is
    ∙ sym (ap (λ b. cond b all (all ++ map ∷ [])) (ap (list_any (same_cells map)) (sym c.self.view_is) ∙ none))
