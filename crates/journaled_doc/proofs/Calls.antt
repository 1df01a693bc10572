-- What a call does, by whether its change was kept.
use Rattle.std.proofs.Common.{◌≡◌, ℕ, Bool, List, [], ◌++◌, Option, Result, Err, inl, refl, sym, ap, subst, ◌∙◌}
use Rattle.std.proofs.lemmas.List.{append-nil}
use Rattle.doc_model.specs.rules.Effects.{Effect}
use Rattle.doc_model.specs.declared.call.Call.{Call}
use Rattle.doc_model.specs.declared.doc.Doc.{Doc}
use Rattle.doc_model.specs.declared.reply.Submitted.{Submitted}
use Rattle.doc_model.specs.declared.reply.Submitted.TheVariants.{Answered, DiskFault, JournalFull, NoMemory}
use Rattle.journaled_doc.specs.Standing.{IsStanding, IsKeptAs, HasSubmitCause, IsFull}
use Rattle.journaled_doc.specs.Docs.{IsAnswered, HasCause, MayBeFull, IsTold, kept_calls, IsTriedAs}
use Rattle.journaled_doc.specs.declared.kept.Kept.{Kept}

abbrev pub Unkept : ℕ → ℕ → Bool → ℕ → Submitted → Type 0
Unkept before now moved count submitted = HasSubmitCause before now moved count (Err submitted)

pub unkept_cause : (before now count : ℕ) (moved moves : Bool) (s : Submitted) → moved ≡ moves → Unkept before now moved count s → HasCause before now moves count s
unkept_cause before now count moved moves (Answered reply) e h = absurd h.cause
unkept_cause before now count moved moves DiskFault e h = record { later = h.later; cause = (sym e ∙ h.cause.0, h.cause.1) }
unkept_cause before now count moved moves JournalFull e h = record { later = h.later; cause = (sym e ∙ h.cause.0, h.cause.1, h.cause.2) }
unkept_cause before now count moved moves NoMemory e h = record { later = h.later; cause = h.cause }

pub unkept_answer : (before now count : ℕ) (moved : Bool) (s : Submitted) (effect : Effect) (old new : Doc) → new ≡ old → Unkept before now moved count s → IsAnswered effect old new s
unkept_answer before now count moved (Answered reply) effect old new e h = absurd h.cause
unkept_answer before now count moved DiskFault effect old new e h = e
unkept_answer before now count moved JournalFull effect old new e h = e
unkept_answer before now count moved NoMemory effect old new e h = e

pub unkept_told : (before now count : ℕ) (moved moves : Bool) (s : Submitted) → moved ≡ moves → Unkept before now moved count s → IsTold moves moved s
unkept_told before now count moved moves (Answered reply) e h = e
unkept_told before now count moved moves DiskFault e h = e
unkept_told before now count moved moves JournalFull e h = e
unkept_told before now count moved moves NoMemory e h = tt

pub unkept_tried : (moved : Bool) (call : Call) (old new : Option Call) (s : Submitted) → IsKeptAs moved call old new (Err s) → IsTriedAs moved call old new s
unkept_tried moved call old new (Answered reply) h = absurd h
unkept_tried moved call old new DiskFault h = h
unkept_tried moved call old new JournalFull h = h
unkept_tried moved call old new NoMemory h = h

pub none_kept : (before now count : ℕ) (moved : Bool) (s : Submitted) (call : Call) → Unkept before now moved count s → kept_calls call moved s ≡ []
none_kept before now count moved (Answered reply) call h = absurd h.cause
none_kept before now count moved DiskFault call h = refl
none_kept before now count moved JournalFull call h = refl
none_kept before now count moved NoMemory call h = refl

pub unkept_full : (s : Submitted) → IsFull (Err s) → MayBeFull s
unkept_full s e = inl (same s e) where
  same : (s : Submitted) → ◌≡◌ {A = Result (Unit {0}) Submitted} (Err s) (Err JournalFull) → s ≡ JournalFull
  same s e = cc

module _ {D : Type 0} (may_leave : D → List ℕ → Type 0) where
  pub stands_unkept : (before now count : ℕ) (moved : Bool) (s : Submitted) (call : Call) (kept : Kept D) (calls : List Call) → Unkept before now moved count s → IsStanding may_leave kept calls
      → IsStanding may_leave kept (calls ++ kept_calls call moved s)
  stands_unkept before now count moved s call kept calls h is =
      subst (λ (l : List Call). IsStanding may_leave kept l) (sym (ap (λ (l : List Call). calls ++ l) (none_kept before now count moved s call h) ∙ append-nil calls)) is
