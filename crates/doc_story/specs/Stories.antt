-- What a story has, and how it grows.
use Rattle.std.specs.Prelude.{◌≡◌, ℕ, Bool, [], ◌++◌, Some, None}
use mathlib.Core.Option.{Option, none, some}
use Rattle.atomic_table.specs.Table.{Me, Step}
use Rattle.doc_model.specs.laws.Histories.{gained}
use Rattle.doc_model.specs.declared.call.Call.{Call}
use Rattle.doc_model.specs.declared.reply.Submitted.{Submitted}
use Rattle.doc_story.specs.declared.told.Noted.{Noted}
use Rattle.doc_story.specs.declared.told.Told.{Told}

-- no calls yet
abbrev pub begun : Told
begun = record { history = []; last = None }

-- A call was made: it is the last one, and the history gains it where it was answered and moved.
abbrev pub noted : ℕ → Call → Submitted → Bool → ℕ → ℕ → Told → Told
noted caller call submitted moved before after told = record {
  history = told.history ++ gained caller call submitted moved;
  last = Some (record { caller = caller; call = call; made = record { submitted = submitted; before = before; after = after }; moved = moved });
}

-- no call is the last one
abbrev pub forgotten : Told → Told
forgotten told = record { history = told.history; last = None }

-- ---- the steps of the table

abbrev pub noted_by : {D : Type 0} → (D → ℕ) → Option (Noted D) → Told → Told
noted_by faults none told = told
noted_by faults (some x) told = noted x.caller x.call.value x.submitted.value x.moved (faults x.before.value.value) (faults x.after.value) told

abbrev pub IsNoted : {D : Type 0} → (D → ℕ) → Step (Noted D) → Me (Noted D) Told → ℕ → Me (Noted D) Told → Type 0
IsNoted faults step me found after = after ≡ (noted_by faults step.said me.0, me.1)

abbrev pub IsForgotten : {D : Type 0} → Step (Noted D) → Me (Noted D) Told → ℕ → Me (Noted D) Told → Type 0
IsForgotten step me found after = after ≡ (forgotten me.0, me.1)
