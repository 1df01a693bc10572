use Rattle.std.proofs.Common.{◌≡◌, ◌++◌, ◌∙◌, ap, subst, map, filter, IfOk}
use Rattle.doc_model.specs.rules.Finding.{numbered_from}
use Rattle.doc_model.specs.rules.Pulls.{ranges_of}
use Rattle.plain_core.specs.Cataloging.{listed}
use Rattle.plain_core.specs.Sending.{is_one_of}
use Rattle.plain_core.specs.Uploading.{elements_of}
use Rattle.plain_core.proofs.SentSerials.{sent-by-id}
use Rattle.plain_core.proofs.put.Sent.serials.Goals as goal

pub returns : goal.returns
returns c =
    let es = elements_of c.args.self.now in
    subst (λ serials. IfOk c.ranges_of.result (λ ranges. ranges ≡ ranges_of c.args.guid serials))
    (c.as_slice.ensures ∙ c.in_ok-serials.ensures
    ∙ ap (λ added. map (λ n. n.serial) (filter (is_one_of c.in_ok-ids.ids) (numbered_from 1 (added ++ c.fresh.result.now)))) c.added.ensures
    ∙ ap (λ fresh. map (λ n. n.serial) (filter (is_one_of c.in_ok-ids.ids) (numbered_from 1 (c.args.catalog.now.added.now ++ fresh)))) c.fresh.ensures
    ∙ ap (λ ids. map (λ n. n.serial) (filter (is_one_of ids) (numbered_from 1 (listed c.args.catalog.now)))) c.in_ok-ids.ensures
    ∙ ap (map (λ n. n.serial)) (sent-by-id es (numbered_from 1 (listed c.args.catalog.now))))
    c.ranges_of.ensures
