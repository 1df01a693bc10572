use Rattle.std.proofs.Common.{sym, ap, ◌∙◌, List, Ok, Err, ltb}
use Rattle.envelope_grammar.specs.declared.raw.RawRequest.{RawRequest}
use Rattle.envelope_read.specs.Verdicts.{most_subs, sub_count, asks_from}
use Rattle.envelope_read.proofs.AskLoops.{none_verdict, many_verdict, read_verdict}
use Rattle.envelope_read.proofs.read.read_envelope.Goals as goal

pub returns-in-Err-NotInGrammar-clause-reads : goal.returns-in-Err-NotInGrammar-clause-reads
returns-in-Err-NotInGrammar-clause-reads c =
    let none = rw c.in-Err-NotInGrammar.field-0-is at c.in-Err-NotInGrammar.ensures.computed in
    none_verdict c.args.text.now none

pub returns-then-are_too_many-clause-reads : goal.returns-then-are_too_many-clause-reads
returns-then-are_too_many-clause-reads c =
    many_verdict c.args.text.now c.in-Ok.requests c.in-Ok.ensures.computed
    (ap (λ (rs : List RawRequest). ltb most_subs (sub_count rs)) (sym c.as_slice.ensures) ∙ sym c.are_too_many.ensures ∙ c.if-are_too_many.true)

pub returns-in-Ok-2-clause-reads : goal.returns-in-Ok-2-clause-reads
returns-in-Ok-2-clause-reads c =
    read_verdict c.args.text.now c.in-Ok.requests (Ok c.in-Ok-2.requests) c.in-Ok.ensures.computed
    (ap (λ (rs : List RawRequest). ltb most_subs (sub_count rs)) (sym c.as_slice.ensures) ∙ sym c.are_too_many.ensures ∙ c.if-are_too_many.false)
    (ap (asks_from 0) (sym c.as_slice-2.ensures) ∙ sym c.in_ok-requests.ensures ∙ c.in-Ok-2.is)

pub returns-clause-reads : goal.returns-clause-reads
returns-clause-reads c =
    read_verdict c.args.text.now c.in-Ok.requests (Err c.in-Err.sub) c.in-Ok.ensures.computed
    (ap (λ (rs : List RawRequest). ltb most_subs (sub_count rs)) (sym c.as_slice.ensures) ∙ sym c.are_too_many.ensures ∙ c.if-are_too_many.false)
    (ap (asks_from 0) (sym c.as_slice-2.ensures) ∙ sym c.in_ok-requests.ensures ∙ c.in-Err.is)
