use Rattle.std.proofs.Common.{rules, ◌≡◌, ◌∙◌, find, Some, sym}
use Rattle.doc_model.specs.declared.editor.Editor.{Editor}
use Rattle.doc_model.specs.rules.Editing.{edited, is_editor, without_key}
use Rattle.editors_table.proofs.Edits.{edited_found}
use Rattle.editors_table.proofs.steps.remove_key.Goals as goal

pub returns-in_ok-entries-in-Some : goal.returns-in_ok-entries-in-Some
returns-in_ok-entries-in-Some c =
    let f : find (is_editor c.args.client) c.args.editors ≡ Some c.in_ok-own-in-Some.own =
    rw (c.in_ok-own-in-Some.ensures, ← c.as_slice.ensures) (sym c.in-Some.ensures) in
    let change : Editor → Editor = λ x. record x { entries = without_key c.args.key.now x.entries } in
    let e : c.replaced-after.result ≡ edited c.args.client change c.args.editors =
    (rw c.in_ok-entries-in-Some.ensures at c.replaced-after.ensures) ∙ edited_found c.args.client change c.args.editors c.in_ok-own-in-Some.own f in
    search rules
