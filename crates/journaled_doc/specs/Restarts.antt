-- What is seen of a document over restarts, and which events that may have been.
use Rattle.std.specs.Prelude.{◌≡◌, ◌⊎◌, ℕ, Bool, true, false, List, [], ◌∷◌, ◌++◌}
use Rattle.compact_values.specs.declared.guid.Guid.{Guid}
use Rattle.host_edge.specs.Disks.{NoneIsNew}
use Rattle.doc_model.specs.declared.call.Call.{Call}
use Rattle.doc_model.specs.declared.doc.Doc.{Doc}
use Rattle.doc_model.specs.declared.reply.Submitted.{Submitted}
use Rattle.doc_model.specs.declared.reply.Submitted.TheVariants.{Answered, DiskFault, JournalFull, NoMemory}
use Rattle.journaled_doc.specs.Eras.{Event, Acknowledged, NotAppended, NotMended, NotOpened, Opened, Crashed, Keeps, era}
use Rattle.journaled_doc.specs.Standing.{IsDiskFault}
use Rattle.journaled_doc.specs.Replays.{IsOpenedIn}
use Rattle.journaled_doc.specs.Docs.{InEra, Became}
use Rattle.journaled_doc.specs.declared.doc.JournaledDoc.{JournaledDoc}

-- A document that is open, or a disk on which one is kept.
pub data Place (C D : Type 0) : Type 0 where
  Open : JournaledDoc C D → Place C D
  Kept : Guid → D → Place C D

-- What is seen: a call, whether it was to move, and what became of it; a document that was closed, or a disk that is read from its beginning; an opening, and a failed one;
-- a crash between calls, one inside a call, and one inside an opening.
pub data Seen : Type 0 where
  Called : Call → Bool → Submitted → Seen
  Closed : Seen
  Reopened : Seen
  Refused : Seen
  Crash : Seen
  CrashInside : Call → Seen
  CrashOpening : Seen

-- the events that it may have been
abbrev pub Tells : Seen → List Event → Type 0
Tells (Called call true (Answered reply)) es = es ≡ Acknowledged call ∷ []
Tells (Called call false (Answered reply)) es = es ≡ []
Tells (Called call moved DiskFault) es = (es ≡ NotMended ∷ []) ⊎ (es ≡ NotAppended call ∷ [])
Tells (Called call moved JournalFull) es = es ≡ []
Tells (Called call moved NoMemory) es = es ≡ []
Tells Closed es = es ≡ []
Tells Reopened es = (found : Bool) × (es ≡ Opened found ∷ [])
Tells Refused es = es ≡ NotOpened ∷ []
Tells Crash es = (found : Bool) × (es ≡ Crashed found ∷ [])
Tells (CrashInside call) es = (found : Bool) × ((es ≡ NotMended ∷ Crashed found ∷ []) ⊎ (es ≡ NotAppended call ∷ Crashed found ∷ []))
Tells CrashOpening es = (found : Bool) × (es ≡ NotOpened ∷ Crashed found ∷ [])

-- the events of all that was seen, in order
abbrev pub TellsAll : List Seen → List Event → Type 0
TellsAll [] es = es ≡ []
TellsAll (x ∷ xs) es = (first : List Event) × (rest : List Event) × Tells x first × TellsAll xs rest × (es ≡ first ++ rest)

module _ {C D : Type 0} (doc : C → Doc) (may_leave : D → List ℕ → Type 0) where
  -- it stands where these events lead to
  abbrev pub StandsAfter : Place C D → List Event → Type 0
  StandsAfter (Open j) events = InEra doc may_leave j events
  StandsAfter (Kept guid disk) events = Keeps (may_leave disk) guid events

  -- From one place that stands where events lead to another is reached that stands where these and its own lead to.
  abbrev pub IsStep : Place C D → Seen → Place C D → Type 0
  IsStep old seen new = (events : List Event) → StandsAfter old events → (es : List Event) × Tells seen es × StandsAfter new (events ++ es)

  -- steps, one after the other
  abbrev pub AreSteps : Place C D → List (Seen × Place C D) → Type 0
  AreSteps place [] = Unit {0}
  AreSteps place (x ∷ xs) = IsStep place x.0 x.1 × AreSteps x.1 xs

  abbrev pub last_place : Place C D → List (Seen × Place C D) → Place C D
  last_place place [] = place
  last_place place (x ∷ xs) = last_place x.1 xs

  -- what `submit`, `into_disk`, `recover` and crashes tell is a step
  pub record AreAllSteps : Type 0 where
    pub call : (old new : JournaledDoc C D) (call : Call) (moved : Bool) (s : Submitted)
        → ((events : List Event) → InEra doc may_leave old events → Became doc may_leave new events call moved s) → IsStep (Open old) (Called call moved s) (Open new)
    pub closed : (j : JournaledDoc C D) → IsStep (Open j) Closed (Kept j.kept.journal.guid j.kept.journal.disk)
    pub reopened : (guid : Guid) (disk : D) (j : JournaledDoc C D) → ((events : List Event) → Keeps (may_leave disk) guid events → IsOpenedIn doc may_leave events j)
        → IsStep (Kept guid disk) Reopened (Open j)
    pub refused : (guid : Guid) (disk left : D) → ((events : List Event) → Keeps (may_leave disk) guid events → Keeps (may_leave left) guid (events ++ NotOpened ∷ []))
        → IsStep (Kept guid disk) Refused (Kept guid left)
    pub crash : (guid : Guid) (disk left : D) (c : List ℕ) → may_leave disk c → ((d : List ℕ) → may_leave left d → d ≡ c) → IsStep (Kept guid disk) Crash (Kept guid left)
    pub opening : (guid : Guid) (disk left : D) (c : List ℕ) → may_leave disk c → ((d : List ℕ) → may_leave left d → d ≡ c) → IsStep (Kept guid disk) CrashOpening (Kept guid left)
    pub begun : (guid : Guid) (disk new : D) → NoneIsNew (may_leave disk) (may_leave new) → IsStep (Kept guid disk) Closed (Kept guid new)
    pub inside : (j : JournaledDoc C D) (left : D) (call : Call) (c : List ℕ) → ((d : List ℕ) → may_leave left d → d ≡ c)
        → ((events : List Event) → InEra doc may_leave j events → IsDiskFault j.kept.journal.guid (era events).calls (era events).tried call c) → IsStep (Open j) (CrashInside call) (Kept j.kept.journal.guid left)
