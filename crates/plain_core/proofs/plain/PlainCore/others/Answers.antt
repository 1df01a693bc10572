use Rattle.std.proofs.Common.{◌∙◌, ap}
use Rattle.doc_model.specs.rules.Puts.{other_parts}
use Rattle.plain_core.specs.Weighing.{few_parts}
use Rattle.plain_core.proofs.FewObjects.{few-others}
use Rattle.plain_core.proofs.plain.PlainCore.others.Goals as goal

pub returns-clause-few : goal.returns-clause-few
returns-clause-few c =
    let now = c.args.self.now in
    let index = c.args.upload.now.index in
    ap few_parts c.in_ok-parts.ensures ∙ ap (λ parts. few_parts (other_parts parts c.args.moment index)) c.as_slice.ensures
    ∙ few-others now.parts c.args.moment index now.few_pending
