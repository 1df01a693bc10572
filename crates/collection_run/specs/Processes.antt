-- What is still asked and answered: calls of documents, one after the other, and a text in the end.
use Rattle.std.specs.Prelude.{◌≡◌, ℕ, ◌-◌, ◌<◌, List, [], ◌∷◌}
use Rattle.doc_model.specs.declared.call.Call.{Call}
use Rattle.doc_model.specs.declared.reply.Submitted.{Submitted}
use Rattle.doc_model.specs.rules.Histories.{Fits}
use Rattle.doc_model.specs.rules.Sound.{Valid}

-- it says a text, or calls a document and goes on by what became of it
pub data Process : Type 0 where
  says : (text : List ℕ) → Process
  calls : (doc : ℕ) (call : Call) (go_on : Submitted → Process) → Process

-- a call that was made, and what became of it
pub record Exchange : Type 0 where
  pub doc : ℕ
  pub call : Call
  pub submitted : Submitted

-- what is left after a call
abbrev pub after : Process → Submitted → Process
after (says text) submitted = says text
after (calls doc call go_on) submitted = go_on submitted

-- the next call is this one, of this document
abbrev pub Asks : Process → ℕ → Call → Type 0
Asks (says text) doc call = ⊥
Asks (calls d c go_on) doc call = (d ≡ doc) × (c ≡ call)

-- nothing is asked any more, and this is the text
abbrev pub Says : Process → List ℕ → Type 0
Says (says said) text = text ≡ said
Says (calls doc call go_on) text = ⊥

-- with these exchanges, and no others, it comes to this
abbrev pub Goes : Process → List Exchange → Process → Type 0
Goes p [] q = q ≡ p
Goes (says text) (e ∷ exchanges) q = ⊥
Goes (calls doc call go_on) (e ∷ exchanges) q = (e.doc ≡ doc) × (e.call ≡ call) × Goes (go_on e.submitted) exchanges q

-- the calls are these, and the text is this one
abbrev pub Runs : Process → List Exchange → List ℕ → Type 0
Runs p exchanges text = Goes p exchanges (says text)

-- every call that can come is one that may be made, of one of so many documents
abbrev pub IsServable : ℕ → Process → Type 0
IsServable docs (says text) = Unit {0}
IsServable docs (calls doc call go_on) = (doc < docs) × Valid call × ((submitted : Submitted) → Fits call submitted → IsServable docs (go_on submitted))

-- at most so many calls, whatever becomes of them
abbrev pub AtMost : ℕ → Process → Type 0
AtMost most (says text) = Unit {0}
AtMost most (calls doc call go_on) = (0 < most) × ((submitted : Submitted) → AtMost (most - 1) (go_on submitted))
