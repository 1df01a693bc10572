use Rattle.std.proofs.Common.{sym, ◌∙◌, ap, fold}
use Rattle.std.proofs.lemmas.List.Sums.{fold-append}
use Rattle.compact_values.specs.IdPlaces.{with_new}
use Rattle.doc_model.specs.rules.Puts.{same_ids}
use Rattle.plain_core.specs.Uploading.{elements_of}
use Rattle.plain_core.proofs.Growing.{grows}
use Rattle.plain_core.proofs.put.Sent.grown.Goals as goal

pub returns-clause-listed : goal.returns-clause-listed
returns-clause-listed c =
    let pending = c.args.self.now.pending.now in
    let sent_now = c.args.self.now.package.now in
    c.in_ok-grow-2.ensures.listed
    ∙ ap (λ known. fold (with_new same_ids) known sent_now) (c.in_ok-grow.ensures.listed ∙ ap (λ known. fold (with_new same_ids) known pending) c.in_ok-catalog.ensures.listed)
    ∙ sym (fold-append (with_new same_ids) c.args.added.now pending sent_now)
    ∙ grows c.args.added.now (elements_of c.args.self.now)
