use Rattle.std.proofs.Common.{◌∙◌, sym, ap, option_copied}
use Rattle.std.specs.Prelude.{not}
use Rattle.doc_model.specs.rules.Puts.{differs}
use Rattle.doc_model.proofs.SameContents.{told}
use Rattle.plain_core.proofs.checking.differs.Goals as goal

-- the comparison tells whether the bodies are equal
pub returns-in-Some : goal.returns-in-Some
returns-in-Some c =
    ap not (told c.in-Some.known.now.body c.args.element.now.body c.same.result c.same.ensures)
    ∙ ap (λ known. differs (option_copied known) c.args.element.now) (sym c.in-Some.is)
