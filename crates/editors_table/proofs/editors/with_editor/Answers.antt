use Rattle.std.proofs.Common.{◌≡◌, ◌∙◌, find, Some, sym}
use Rattle.doc_model.specs.rules.Editing.{is_editor}
use Rattle.editors_table.proofs.Edits.{joins_found}
use Rattle.editors_table.proofs.editors.with_editor.Goals as goal

pub returns-in_ok-own-in-Some : goal.returns-in_ok-own-in-Some
returns-in_ok-own-in-Some c =
    let f : find (is_editor c.args.client) c.args.editors ≡ Some c.in_ok-own-in-Some.own =
    rw (c.in_ok-own-in-Some.ensures, ← c.as_slice.ensures) (sym c.in-Some.ensures) in
    rw (← c.in_ok-user.ensures) (c.replaced.ensures ∙ joins_found c.args.client c.in_ok-user.user c.args.until c.args.editors c.in_ok-own-in-Some.own f)
