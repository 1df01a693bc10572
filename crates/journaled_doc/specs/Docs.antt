-- What a document that is kept stands for.
use Rattle.std.specs.Prelude.{◌≡◌, ◌⊎◌, ℕ, ◌+◌, ◌≤◌, Bool, true, false, if◌then◌else◌, List, [], ◌∷◌, ◌++◌, length, map, Option, Some, None}
use Rattle.host_edge.specs.Causes.{Rose}
use Rattle.host_edge.specs.Disks.{LeavesOnly}
use Rattle.doc_model.specs.rules.Apply.{apply, replay}
use Rattle.doc_model.specs.rules.Histories.{History, EachMoves}
use Rattle.doc_model.specs.rules.Limits.{most_bodies}
use Rattle.doc_model.specs.rules.Effects.{Effect}
use Rattle.doc_model.specs.declared.call.Call.{Call}
use Rattle.doc_model.specs.declared.doc.Doc.{Doc}
use Rattle.doc_model.specs.declared.reply.Submitted.{Submitted}
use Rattle.doc_model.specs.declared.reply.Submitted.TheVariants.{Answered, DiskFault, JournalFull, NoMemory}
use Rattle.doc_story.specs.Telling.{told}
use Rattle.doc_story.specs.declared.told.Told.{Told}
use Rattle.doc_story.specs.declared.story.Story.{Story}
use Rattle.cell_journal.specs.declared.state.Journal.{Journal}
use Rattle.journaled_doc.specs.Eras.{Event, Acknowledged, NotAppended, NotMended, era, document_of, IsKeepable, AreKeepable}
use Rattle.journaled_doc.specs.Standing.{IsStanding, tried_of, if_moved, IsDiskFault}
use Rattle.journaled_doc.specs.declared.doc.JournaledDoc.{JournaledDoc}
use Rattle.journaled_doc.specs.declared.kept.Kept.{Kept}

-- ---- one call

-- the document afterwards, and the reply
abbrev pub IsAnswered : Effect → Doc → Doc → Submitted → Type 0
IsAnswered effect before after (Answered reply) = (reply ≡ effect.reply) × (after ≡ effect.doc)
IsAnswered effect before after DiskFault = after ≡ before
IsAnswered effect before after JournalFull = after ≡ before
IsAnswered effect before after NoMemory = after ≡ before

-- Why it isn't answered: the call moves, and the disk's count of faults rose, or the journal was full. Where it is answered no
-- fault was passed over.
abbrev pub IsCause : ℕ → ℕ → Bool → ℕ → Submitted → Type 0
IsCause before now moved count (Answered reply) = now ≡ before
IsCause before now moved count DiskFault = (moved ≡ true) × Rose before now
IsCause before now moved count JournalFull = (moved ≡ true) × (most_bodies ≤ count) × (now ≡ before)
IsCause before now moved count NoMemory = now ≡ before

pub record HasCause (before now : ℕ) (moved : Bool) (count : ℕ) (submitted : Submitted) : Type 0 where
  pub later : before ≤ now
  pub cause : IsCause before now moved count submitted

abbrev pub MayBeFull : Submitted → Type 0
MayBeFull submitted = (submitted ≡ JournalFull) ⊎ (submitted ≡ NoMemory)

-- whether the call was to move, as it was told: where it was answered, or the disk or the journal refused it, just that
abbrev pub IsTold : Bool → Bool → Submitted → Type 0
IsTold moves moved NoMemory = Unit {0}
IsTold moves moved other = moved ≡ moves

-- A call that doesn't move leaves the journal as it is, and so does one for which there was no room or no memory: no call of the
-- disk was made.
abbrev pub IsUntouched : {D : Type 0} → Bool → Kept D → Kept D → Submitted → Type 0
IsUntouched moves old new (Answered reply) = moves ≡ false → new ≡ old
IsUntouched moves old new DiskFault = Unit {0}
IsUntouched moves old new JournalFull = new ≡ old
IsUntouched moves old new NoMemory = new ≡ old

-- what the changes gain by a call
abbrev pub kept_calls : Call → Bool → Submitted → List Call
kept_calls call moved (Answered reply) = if_moved moved call
kept_calls call moved other = []

-- which change is the one that was tried
abbrev pub IsTriedAs : Bool → Call → Option Call → Option Call → Submitted → Type 0
IsTriedAs moved call old new (Answered reply) = new ≡ (if moved then None else old)
IsTriedAs moved call old new DiskFault = (new ≡ old) ⊎ (new ≡ Some call)
IsTriedAs moved call old new JournalFull = new ≡ old
IsTriedAs moved call old new NoMemory = new ≡ old

module _ {C D : Type 0} where
  abbrev pub history : JournaledDoc C D → History
  history doc = (told doc.story).history

  -- it remembers the same opening
  pub record SameOpening (old new : JournaledDoc C D) : Type 0 where
    pub first : new.first ≡ old.first
    pub opened : new.opened ≡ old.opened
    pub before : new.before ≡ old.before
    pub guid : new.kept.journal.guid ≡ old.kept.journal.guid

  -- what an attempt does but for the story
  pub record Attempted (doc : C → Doc) (may_leave : D → List ℕ → Type 0) (moment : D → ℕ) (left_since : D → ℕ → List ℕ → Type 0) (faults : D → ℕ)
      (old new : JournaledDoc C D) (call : Call) (moved : Bool) (submitted : Submitted) : Type 0 where
    pub answer : IsAnswered (apply (doc old.core) call) (doc old.core) (doc new.core) submitted
    pub moves : IsTold (apply (doc old.core) call).moved moved submitted
    pub keepable : moved ≡ true → IsKeepable call
    pub cause : HasCause (faults old.kept.journal.disk) (faults new.kept.journal.disk) (apply (doc old.core) call).moved old.kept.journal.count submitted
    pub full : (apply (doc old.core) call).moved ≡ true → most_bodies ≤ old.kept.journal.count → MayBeFull submitted
    pub stands : (calls : List Call) → IsStanding may_leave old.kept calls → IsStanding may_leave new.kept (calls ++ kept_calls call moved submitted)
    pub tried : IsTriedAs moved call (tried_of old.kept) (tried_of new.kept) submitted
    pub count : new.kept.journal.count ≡ old.kept.journal.count + length (kept_calls call moved submitted)
    pub any_moment : (calls : List Call) → IsStanding may_leave old.kept calls
        → LeavesOnly moment left_since old.kept.journal.disk new.kept.journal.disk (IsDiskFault old.kept.journal.guid calls (tried_of old.kept) call)
    pub untouched : IsUntouched (apply (doc old.core) call).moved old.kept new.kept submitted
    pub same : SameOpening old new
    pub story : new.story ≡ old.story

  -- ---- what it stands for

  -- The document is that of its history, each call of which moved. The disk is safe for the changes before the opening and then
  -- those of the history, with the one that was tried.
  pub record IsJournaled (doc : C → Doc) (may_leave : D → List ℕ → Type 0) (j : JournaledDoc C D) : Type 0 where
    pub document : doc j.core ≡ replay (doc j.first.value) (history j)
    pub moves : EachMoves (doc j.first.value) (history j)
    pub guid : j.kept.journal.guid ≡ j.opened.value.journal.guid
    pub before : j.before ≡ j.opened.value.journal.count
    pub count : j.kept.journal.count ≡ j.before + length (history j)
    pub stands : (before : List Call) → IsStanding may_leave j.opened.value before → IsStanding may_leave j.kept (before ++ map (λ item. item.1) (history j))

  -- It stands where these events lead to: the document is that of the acknowledged changes, and the disk keeps them.
  pub record InEra (doc : C → Doc) (may_leave : D → List ℕ → Type 0) (j : JournaledDoc C D) (events : List Event) : Type 0 where
    pub document : doc j.core ≡ document_of j.kept.journal.guid (era events).calls
    pub keepable : AreKeepable (era events)
    pub tried : tried_of j.kept ≡ (era events).tried
    pub stands : IsStanding may_leave j.kept (era events).calls

  -- the events of a call
  abbrev pub Became : (C → Doc) → (D → List ℕ → Type 0) → JournaledDoc C D → List Event → Call → Bool → Submitted → Type 0
  Became doc may_leave j events call moved (Answered reply) = InEra doc may_leave j (if moved then events ++ Acknowledged call ∷ [] else events)
  Became doc may_leave j events call moved DiskFault = InEra doc may_leave j (events ++ NotMended ∷ []) ⊎ InEra doc may_leave j (events ++ NotAppended call ∷ [])
  Became doc may_leave j events call moved JournalFull = InEra doc may_leave j events
  Became doc may_leave j events call moved NoMemory = InEra doc may_leave j events

-- The call is the last one, with what became of it, the counts of faults round it, and whether it was to move.
pub record IsLast (caller : ℕ) (call : Call) (submitted : Submitted) (before after : ℕ) (moves : Bool) (t : Told) : Type 0 where
  pub moved : Bool
  pub as_told : IsTold moves moved submitted
  pub last : t.last ≡ Some (record { caller = caller; call = call; made = record { submitted = submitted; before = before; after = after }; moved = moved })

-- The document is one that was opened with this core, journal and story just now.
pub record IsNew {C D : Type 0} (core : C) (journal : Journal D) (story : Story D) (j : JournaledDoc C D) : Type 0 where
  pub core_is : j.core ≡ core
  pub journal_is : j.kept.journal ≡ journal
  pub tried_is : j.kept.tried ≡ None
  pub story_is : j.story ≡ story
  pub first_is : j.first.value ≡ core
  pub opened_is : j.opened.value ≡ j.kept
  pub before_is : j.before ≡ journal.count
