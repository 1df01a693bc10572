use Rattle.std.proofs.Common.{ℕ, List, ap, ◌∙◌}
use Rattle.change_record.proofs.Bodies.{call_made}
use Rattle.change_record.proofs.read.call_with.Goals as goal

pub returns-in-Some : goal.returns-in-Some
returns-in-Some c = λ call a e r.
    let read = c.in_ok-sub.ensures call.sub a (c.value.ensures ∙ ap (λ (y : ℕ × (ℕ × List ℕ)). y.0) e) r in
    call_made call _ _ _ (ap (λ (y : ℕ × (ℕ × List ℕ)). y.1.0) e) (c.into_text.ensures ∙ ap (λ (y : ℕ × (ℕ × List ℕ)). y.1.1) e) cc

pub returns-in-None : goal.returns-in-None
returns-in-None c = λ call a e r.
    let read = c.in_ok-sub.ensures call.sub a (c.value.ensures ∙ ap (λ (y : ℕ × (ℕ × List ℕ)). y.0) e) r in
    absurd cc
