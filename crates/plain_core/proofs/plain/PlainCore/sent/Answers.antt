use Rattle.std.proofs.Common.{◌++◌, ◌∙◌, ap}
use Rattle.doc_model.specs.rules.Puts.{pending}
use Rattle.plain_core.specs.Weighing.{is_few, all_few}
use Rattle.plain_core.proofs.FewObjects.{all-both, few-pending}
use Rattle.plain_core.proofs.plain.PlainCore.sent.Goals as goal

pub returns-clause-few : goal.returns-clause-few
returns-clause-few c =
    let now = c.args.self.now in
    let index = c.args.upload.now.index in
    ap (λ kept. all_few (kept ++ c.as_slice-2.result.now)) (c.pending.ensures ∙ ap (λ parts. pending parts index) c.as_slice.ensures)
    ∙ ap (λ sent. all_few (pending now.parts index ++ sent)) c.as_slice-2.ensures
    ∙ all-both is_few (pending now.parts index) c.args.upload.now.elements (few-pending now.parts index now.few_pending) c.requires
