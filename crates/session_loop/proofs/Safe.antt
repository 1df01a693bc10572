-- Each step of a session leaves it safe.
use Rattle.std.proofs.Common.{◌≡◌, ℕ, ◌<◌, List, length, Option, Some, None, Bool, sym, subst}
use Rattle.std.specs.Prelude.{IfSome}
use Rattle.doc_model.specs.rules.Histories.{Fits}
use Rattle.doc_model.specs.laws.Documents.{KeepsSound}
use Rattle.doc_model.specs.rules.Sound.{Sound, Valid}
use Rattle.doc_model.specs.declared.reply.Submitted.TheVariants.{Answered, DiskFault, JournalFull, NoMemory}
use Rattle.session_loop.specs.Documents.{Kept, IsSubmitted, IsLone}
use Rattle.doc_model.specs.declared.call.Call.{Call}
use Rattle.doc_model.specs.declared.reply.Submitted.{Submitted}
use Rattle.http_head.specs.declared.answer.Media.{Media}
use Rattle.collection_run.specs.declared.progress.Progress.{Progress}
use Rattle.collection_run.specs.Processes.{Process, says, calls, Asks, after, IsServable}
use Rattle.collection_run.specs.Progress.{process_of}
use Rattle.session_loop.specs.Sessions.{Machine, IsRefusing, IsAnswering, IsOutOf, CallAt, IsCallOf, WantsIs, SettledAt, IsSettled}
use Rattle.session_loop.specs.declared.want.Want.{Want}
use Rattle.session_loop.specs.declared.want.Want.TheVariants.{Submit, Front}
use Rattle.session_loop.specs.Safety.{SafeAt, IsSafe}
use Rattle.session_loop.specs.declared.stage.Stage.{Stage}
use Rattle.session_loop.specs.declared.stage.Stage.TheVariants.{Heading, InBody, Timing, Running, Filing, Fronting, Writing, Over}

pub refusing_safe : (n : Machine) (status : ℕ) → IsRefusing status n → IsSafe n
refusing_safe n status is = subst (λ (st : Stage). SafeAt st n) (sym is.stage) tt

pub answering_safe : (m n : Machine) (media : Media) (body : List ℕ) (close : Bool) → IsAnswering m media body close n → IsSafe n
answering_safe m n media body close is = subst (λ (st : Stage). SafeAt st n) (sym is.stage) tt

pub at_safe : (stage : Stage) (m : Machine) → m.stage ≡ stage → IsSafe m → SafeAt stage m
at_safe stage m at safe = subst (λ (st : Stage). SafeAt st m) at safe

pub after_safe : (docs doc : ℕ) (call : Call) (p : Process) (submitted : Submitted) → Asks p doc call → Fits call submitted → IsServable docs p → IsServable docs (after p submitted)
after_safe docs doc call (says text) submitted asks fits safe = tt
after_safe docs doc call (calls d c go_on) submitted asks fits safe = safe.2 submitted (subst (λ (x : Call). Fits x submitted) (sym asks.1) fits)

pub running_safe : (m n : Machine) (p q : Progress) (doc : ℕ) (close : Bool) (call : Call) (submitted : Submitted) → m.stage ≡ Running doc close → m.runner ≡ Some p
    → Asks (process_of p) doc call → Fits call submitted → process_of q ≡ after (process_of p) submitted
    → (IsServable (length m.names) (process_of q) → IsSafe n) → IsSafe m → IsSafe n
running_safe m n p q doc close call submitted at runner asks fits goes next safe =
    let s = subst (λ (r : Option Progress). IfSome r (λ x. IsServable (length m.names) (process_of x))) runner (at_safe (Running doc close) m at safe) in
    next (subst (IsServable (length m.names)) (sym goes) (after_safe (length m.names) doc call (process_of p) submitted asks fits s))

-- what the driver is asked
pub asked_safe : (docs doc : ℕ) (call : Call) (p : Process) → Asks p doc call → IsServable docs p → (doc < docs) × Valid call
asked_safe docs doc call (says text) asks safe = absurd asks
asked_safe docs doc call (calls d c go_on) asks safe = (subst (λ (i : ℕ). i < docs) asks.0 safe.0, subst Valid asks.1 safe.1)

valid_at : (stage : Stage) (m : Machine) (call : Call) → CallAt stage m call → SafeAt stage m → Valid call
valid_at (Running doc close) m call out safe = go m.runner out safe
  where
    go : (r : Option Progress) → IsOutOf r doc call → IfSome r (λ p. IsServable (length m.names) (process_of p)) → Valid call
    go None o s = absurd o
    go (Some p) o s = (asked_safe (length m.names) doc call (process_of p) o.1 s).1
valid_at (Filing doc close) m call out safe = subst (λ (o : Option Call). IfSome o Valid) out safe.1
valid_at Heading m call out safe = absurd out
valid_at (InBody r close) m call out safe = absurd out
valid_at (Timing r close) m call out safe = absurd out
valid_at (Fronting doc close) m call out safe = absurd out
valid_at (Writing next) m call out safe = absurd out
valid_at (Over end) m call out safe = absurd out

pub valid_call : (m : Machine) (call : Call) → IsCallOf m call → IsSafe m → Valid call
valid_call m call out safe = valid_at m.stage m call out safe

same_doc : (a b : ℕ) → ◌≡◌ {A = Want} (Submit a) (Submit b) → a ≡ b
same_doc a b e = cc

within_at : (stage : Stage) (m : Machine) (doc : ℕ) → WantsIs stage (Submit doc) → SettledAt stage m → SafeAt stage m → doc < length m.names
within_at (Running d close) m doc wants settled safe = subst (λ (i : ℕ). i < length m.names) (sym (same_doc doc d wants)) (go m.runner settled.1 safe)
  where
    go : (r : Option Progress) → IsOutOf r d settled.0 → IfSome r (λ p. IsServable (length m.names) (process_of p)) → d < length m.names
    go None o s = absurd o
    go (Some p) o s = (asked_safe (length m.names) d settled.0 (process_of p) o.1 s).0
within_at (Filing d close) m doc wants settled safe = subst (λ (i : ℕ). i < length m.names) (sym (same_doc doc d wants)) safe.0
within_at Heading m doc wants settled safe = absurd cc
within_at (InBody r close) m doc wants settled safe = absurd cc
within_at (Timing r close) m doc wants settled safe = absurd cc
within_at (Fronting d close) m doc wants settled safe = absurd cc
within_at (Writing next) m doc wants settled safe = absurd cc
within_at (Over end) m doc wants settled safe = absurd cc

pub wanted_within : (m : Machine) (doc : ℕ) → WantsIs m.stage (Submit doc) → IsSettled m → IsSafe m → doc < length m.names
wanted_within m doc wants settled safe = within_at m.stage m doc wants settled safe

-- ---- a document in memory

pub fits_of : (k n : Kept) (call : Call) (r : Submitted) → Sound k.doc → IsLone r → IsSubmitted k call r n → Fits call r
fits_of k n call (Answered reply) sound lone is = (k.doc, sound, sym is.0)
fits_of k n call DiskFault sound lone is = absurd lone
fits_of k n call JournalFull sound lone is = absurd lone
fits_of k n call NoMemory sound lone is = tt

pub sound_of : (k n : Kept) (call : Call) (r : Submitted) → KeepsSound → Sound k.doc → Valid call → IsSubmitted k call r n → Sound n.doc
sound_of k n call (Answered reply) keeps sound valid is = subst (λ (x : Kept). Sound x.doc) (sym is.1) (keeps k.doc call sound valid)
sound_of k n call DiskFault keeps sound valid is = subst (λ (x : Kept). Sound x.doc) (sym is) sound
sound_of k n call JournalFull keeps sound valid is = subst (λ (x : Kept). Sound x.doc) (sym is) sound
sound_of k n call NoMemory keeps sound valid is = subst (λ (x : Kept). Sound x.doc) (sym is) sound

same_front : (a b : ℕ) → ◌≡◌ {A = Want} (Front a) (Front b) → a ≡ b
same_front a b e = cc

fronted_at : (stage : Stage) (m : Machine) (doc : ℕ) → WantsIs stage (Front doc) → SafeAt stage m → doc < length m.names
fronted_at (Fronting d close) m doc wants safe = subst (λ (i : ℕ). i < length m.names) (sym (same_front doc d wants)) safe
fronted_at Heading m doc wants safe = absurd cc
fronted_at (InBody r close) m doc wants safe = absurd cc
fronted_at (Timing r close) m doc wants safe = absurd cc
fronted_at (Running d close) m doc wants safe = absurd cc
fronted_at (Filing d close) m doc wants safe = absurd cc
fronted_at (Writing next) m doc wants safe = absurd cc
fronted_at (Over end) m doc wants safe = absurd cc

-- the document whose count is wanted is there
pub front_within : (m : Machine) (doc : ℕ) → WantsIs m.stage (Front doc) → IsSafe m → doc < length m.names
front_within m doc wants safe = fronted_at m.stage m doc wants safe
