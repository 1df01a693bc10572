-- Documents that are kept in memory alone, and what their calls do with them.
use Rattle.std.specs.Prelude.{◌≡◌, ℕ, ◌+◌, if◌then◌else◌}
use Rattle.doc_model.specs.rules.Apply.{apply}
use Rattle.doc_model.specs.rules.Effects.{Effect}
use Rattle.doc_model.specs.declared.call.Call.{Call}
use Rattle.doc_model.specs.declared.doc.Doc.{Doc}
use Rattle.doc_model.specs.declared.reply.Submitted.{Submitted}
use Rattle.doc_model.specs.declared.reply.Submitted.TheVariants.{Answered, NoMemory}

-- a document, and the number of its changes
pub record Kept : Type 0 where
  pub doc : Doc
  pub front : ℕ

abbrev pub changed : Kept → Effect → Kept
changed k effect = record { doc = effect.doc; front = if effect.moved then k.front + 1 else k.front }

-- A call is answered by its document as it then is; or it isn't answered, and the document is as it was.
abbrev pub IsSubmitted : Kept → Call → Submitted → Kept → Type 0
IsSubmitted k call (Answered reply) n = (reply ≡ (apply k.doc call).reply) × (n ≡ changed k (apply k.doc call))
IsSubmitted k call submitted n = n ≡ k

-- a document in memory has no disk that could fail: its calls are answered, or there is no memory for them
abbrev pub IsLone : Submitted → Type 0
IsLone (Answered reply) = Unit {0}
IsLone NoMemory = Unit {0}
IsLone submitted = ⊥
