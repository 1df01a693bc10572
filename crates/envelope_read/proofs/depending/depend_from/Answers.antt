use Rattle.std.proofs.Common.{◌∙◌, ap, sym}
use Rattle.std.proofs.lemmas.Bool.{false≢true}
use Rattle.envelope_read.specs.Depending.{depend_on, depend_word}
use Rattle.envelope_read.proofs.Lookups.{has_token}
use Rattle.envelope_read.proofs.depending.depend_from.Goals as goal

pub returns : goal.returns
returns c =
    let word = depend_word c.args.word.now in
    c.depend_on.ensures ∙ ap (depend_on c.args.token) c.depend_word.ensures ∙ has_token c.args.token word (λ e. false≢true (sym c.if-is_empty.false ∙ c.is_empty.ensures.1 e))
