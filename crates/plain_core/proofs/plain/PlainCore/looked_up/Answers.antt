use Rattle.std.proofs.Common.{◌∙◌, sym, ap, List}
use Rattle.doc_model.specs.declared.doc.Commit.{Commit}
use Rattle.doc_model.specs.rules.Versions.{version}
use Rattle.plain_core.proofs.Wholes.{version-whole}
use Rattle.plain_core.proofs.plain.PlainCore.looked_up.Goals as goal

pub plan_version-requires : goal.plan_version-requires
plan_version-requires c =
    let now = c.args.self.now in
    version-whole now.added.items now.commits.items c.args.number c.in-Some.commit.now now.whole
    (ap (λ (cs : List Commit). version cs c.args.number) (sym c.as_slice.ensures.value) ∙ sym c.in-Some.ensures)
