use Rattle.std.proofs.Common.{◌∙◌, ap, List, ℕ}
use Rattle.std.specs.Prelude.{codes}
use Rattle.envelope_read.specs.Lookup.{text_of}
use Rattle.envelope_read.specs.Depending.{depend_word, depend_from}
use Rattle.envelope_read.proofs.depending.depend_of.Goals as goal

pub returns : goal.returns
returns c =
    c.depend_from.ensures
    ∙ ap (λ (t : List ℕ). depend_from t (depend_word c.bytes_of.result.now)) c.in_ok-token.ensures
    ∙ ap (λ (b : List ℕ). depend_from (text_of (codes "DependsOn") c.args.attributes.now) (depend_word b)) c.bytes_of.ensures
