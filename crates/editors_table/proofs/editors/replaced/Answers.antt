use Rattle.std.proofs.Common.{◌≡◌, ◌∙◌, sym, Some, None}
use Rattle.std.specs.List.{position}
use Rattle.doc_model.specs.rules.Editing.{is_editor}
use Rattle.editors_table.proofs.Edits.{replaced_at, replaced_nowhere}
use Rattle.editors_table.proofs.editors.replaced.Goals as goal

pub returns-in-None : goal.returns-in-None
returns-in-None c =
    let p : position (is_editor c.args.client) c.args.editors ≡ None = rw (← c.as_slice.ensures) (sym c.in-None.ensures) in
    sym (replaced_nowhere c.args.client c.args.editor c.args.editors p)

pub returns-in-Some : goal.returns-in-Some
returns-in-Some c =
    let p : position (is_editor c.args.client) c.args.editors ≡ Some c.in-Some.at = rw (← c.as_slice.ensures) (sym c.in-Some.ensures) in
    (rw c.into_vec-all.ensures at c.from_vec.ensures) ∙ sym (replaced_at c.args.client c.args.editor c.args.editors c.in-Some.at p)
