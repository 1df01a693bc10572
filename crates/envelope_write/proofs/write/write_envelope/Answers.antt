use Rattle.std.proofs.Common.{◌≡◌, ℕ, List, ◌++◌, ap, ◌∙◌}
use Rattle.envelope_write.specs.AnswerText.{responses_text, envelope_text}
use Rattle.envelope_write.proofs.Framing.{front, back, framed}
use Rattle.envelope_write.proofs.write.write_envelope.Goals as goal

pub returns : goal.returns
unfolding envelope_text
returns c =
    let responses : List ℕ = responses_text c.args.collection.now.requests c.args.outcomes.now in
    let a = c.in_ok-out.ensures in
    let b = c.in_ok-extend_from_slice.ensures.items in
    let requests : c.as_slice.result.now ≡ c.args.collection.now.requests = c.as_slice.ensures in
    let outcomes : c.as_slice-2.result.now ≡ c.args.outcomes.now = c.as_slice-2.ensures in
    let d = rw (requests, outcomes) at c.in_ok-append_responses.ensures in
    let e = c.in_ok-extend_from_slice-2.ensures.items in
    c.from_vec.ensures ∙ e ∙ ap (λ (l : List ℕ). l ++ back) (d ∙ ap (λ (l : List ℕ). l ++ responses) (b ∙ ap (λ (l : List ℕ). l ++ front) a)) ∙ framed responses
