use Rattle.std.proofs.Common.{◌+◌, ◌++◌, ◌∙◌, ap, map, filter, length}
use Rattle.doc_model.specs.rules.Finding.{numbered_from}
use Rattle.plain_core.specs.Sending.{is_one_of}
use Rattle.plain_core.proofs.SentSerials.{serials-both}
use Rattle.plain_core.proofs.serials.serials_in.Goals as goal

pub returns : goal.returns
returns c =
    let sent = c.args.sent.now in
    c.in_ok-add_serials-2.ensures
    ∙ ap (λ before. before ++ map (λ n. n.serial) (filter (is_one_of sent) (numbered_from (length c.args.added.now + 1) c.args.fresh.now)))
    (c.in_ok-add_serials.ensures ∙ ap (λ none. none ++ map (λ n. n.serial) (filter (is_one_of sent) (numbered_from 1 c.args.added.now))) c.new-serials.ensures)
    ∙ serials-both sent c.args.added.now c.args.fresh.now
