use Rattle.std.proofs.Common.{◌∙◌, ap}
use Rattle.doc_model.specs.rules.Puts.{grown}
use Rattle.plain_core.specs.Uploading.{elements_of}
use Rattle.plain_core.specs.Weighing.{is_few, all_few}
use Rattle.plain_core.proofs.Growing.{all-grown}
use Rattle.plain_core.proofs.plain.PlainCore.grown.Goals as goal

pub returns-clause-few : goal.returns-clause-few
returns-clause-few c =
    let now = c.args.self.now in
    let sent = elements_of c.args.sent.now in
    ap all_few c.in_ok-catalog.ensures.listed ∙ ap (λ added. all_few (grown added sent)) c.as_slice.ensures.value
    ∙ all-grown is_few now.added.items sent now.few c.requires.few
