-- What serving a connection does to what is outside of it: source, sink, clock and documents.
use Rattle.std.specs.Prelude.{◌≡◌, ◌⊎◌, ℕ, List, [], ◌∷◌, ◌++◌, drop, set, slice_get, slice_index, Option, Some, None, ⊤}
use Rattle.std.specs.Io.KnownBytes.{Appends, Consumes, IsAtEnd, Keeps}
use Rattle.host_edge.specs.Causes.{Rose}
use Rattle.host_edge.specs.Streams.{AppendsFront}
use Rattle.session_loop.specs.Cutting.{Request, Ending, Cut}
use Rattle.session_loop.specs.Courses.{Course, ends, writes, Event, wrote, told, made, counted, PassesAll, Takes, course, text_of, moments_of}
use Rattle.session_loop.specs.Documents.{Kept, IsSubmitted, IsLone}
use Rattle.session_loop.specs.Rooms.{Falls}
use Rattle.session_loop.specs.Safety.{IsSafe}
use Rattle.session_loop.specs.Sessions.{Machine, Future, IsSettled}
use Rattle.session_loop.specs.declared.want.SessionEnd.{SessionEnd}
use Rattle.session_loop.specs.declared.want.SessionEnd.TheVariants.{Ended, CutOff, ReadFault, WriteFault, NoMemory}

-- what source, sink, clock and documents show at one time
pub record View : Type 0 where
  pub left : Option (List ℕ)
  pub read_faults : ℕ
  pub held : Option (List ℕ)
  pub write_faults : ℕ
  pub told : Option (List ℕ)
  pub docs : List Kept

-- a clock that is to tell the moments `due` told those, which are 0 behind its end, and is to tell what is left
abbrev pub TellsEach : List ℕ → List ℕ → List ℕ → Type 0
TellsEach due [] left = left ≡ due
TellsEach due (moment ∷ moments) left = (moment ≡ slice_index due 0) × TellsEach (drop 1 due) moments left

abbrev pub Tells : Option (List ℕ) → Option (List ℕ) → List ℕ → Type 0
Tells None left moments = Unit {0}
Tells (Some due) None moments = ⊥
Tells (Some due) (Some left) moments = TellsEach due moments left

-- These events, on these documents: each call is answered by its document as it then is, or there is no memory for it and
-- nothing has changed; each count is its document's.
abbrev pub Happens : List Kept → List Event → List Kept → Type 0
Happens docs [] after = after ≡ docs
Happens docs (wrote text ∷ events) after = Happens docs events after
Happens docs (told moment ∷ events) after = Happens docs events after
Happens docs (made doc call submitted ∷ events) after =
    (k n : Kept) × (slice_get docs doc ≡ Some k) × IsLone submitted × IsSubmitted k call submitted n × Happens (set docs doc n) events after
Happens docs (counted doc count ∷ events) after = (k : Kept) × (slice_get docs doc ≡ Some k) × (count ≡ k.front) × Happens docs events after

-- from one time to another these bytes came and these events happened, and nothing else
pub record Passed (v w : View) (bytes : List ℕ) (events : List Event) : Type 0 where
  pub left : Consumes v.left w.left bytes
  pub read_faults : w.read_faults ≡ v.read_faults
  pub held : Appends v.held w.held (text_of events)
  pub write_faults : w.write_faults ≡ v.write_faults
  pub told : Tells v.told w.told (moments_of events)
  pub docs : Happens v.docs events w.docs

-- the source failed, and nothing else happened
pub record FailsToRead (v w : View) : Type 0 where
  pub rose : Rose v.read_faults w.read_faults
  pub left : Keeps v.left w.left
  pub rest : w ≡ record v { left = w.left; read_faults = w.read_faults }

-- the sink failed with a front of this text, and nothing else happened
pub record FailsToWrite (v w : View) (text : List ℕ) : Type 0 where
  pub rose : Rose v.write_faults w.write_faults
  pub held : AppendsFront v.held w.held text
  pub rest : w ≡ record v { held = w.held; write_faults = w.write_faults }

-- ---- the whole connection

-- The bytes are cut into requests, and these events are their course up to its end.
pub record Served (names : List (List ℕ)) (bytes : List ℕ) (events : List Event) (end : SessionEnd) : Type 0 where
  pub requests : List Request
  pub ending : Ending
  pub cut : Cut names 10_000 bytes requests ending
  pub takes : Takes (course names 10_000 requests ending) events end

-- Whatever the bytes are cut into, with more behind them: these events are the front of their course, and it goes on so.
abbrev pub ServedSoFar : List (List ℕ) → List ℕ → List Event → (Course → Type 0) → Type 0
ServedSoFar names bytes events GoesOn = (more : List ℕ) (requests : List Request) (ending : Ending) → Cut names 10_000 (bytes ++ more) requests ending
    → (c : Course) × PassesAll (course names 10_000 requests ending) events c × GoesOn c

-- the text is written next
abbrev pub IsWriting : List ℕ → Course → Type 0
IsWriting text c = (go_on : Course) × (c ≡ writes text go_on)

-- the end of a source, between two requests or inside one
abbrev pub IsSourceEnd : SessionEnd → Type 0
IsSourceEnd end = (end ≡ Ended) ⊎ (end ≡ CutOff)

-- how a course can end: no fault of a source or a sink is an end of it
abbrev pub IsCourseEnd : SessionEnd → Type 0
IsCourseEnd ReadFault = ⊥
IsCourseEnd WriteFault = ⊥
IsCourseEnd end = Unit {0}

-- What serving a connection did, by how it ended.
pub data Drives (names : List (List ℕ)) (v w : View) : SessionEnd → Type 0 where
  -- all that the source had left was served, up to its end
  came_to_end : (end : SessionEnd) (bytes : List ℕ) (events : List Event) → Passed v w bytes events → IsAtEnd w.left → IsSourceEnd end
      → Served names bytes events end → Drives names v w end
  -- an answer closed the connection: whatever more there is, nothing of it is served
  closed : (end : SessionEnd) (bytes : List ℕ) (events : List Event) → Passed v w bytes events → IsCourseEnd end
      → ((more : List ℕ) → Served names (bytes ++ more) events end) → Drives names v w end
  -- the bytes that came before the fault were served as if they were all
  read_failed : (x : View) (end : SessionEnd) (bytes : List ℕ) (events : List Event) → Passed v x bytes events → FailsToRead x w → IsSourceEnd end
      → Served names bytes events end → Drives names v w ReadFault
  -- this answer was written in part, and all before it
  write_failed : (x : View) (text bytes : List ℕ) (events : List Event) → Passed v x bytes events → FailsToWrite x w text
      → ServedSoFar names bytes events (IsWriting text) → Drives names v w WriteFault
  -- it was served so far
  no_memory : (bytes : List ℕ) (events : List Event) → Passed v w bytes events → ServedSoFar names bytes events (λ _. ⊤) → Drives names v w NoMemory

-- ---- turns

-- a session went on over these bytes and events: what can come of it can come of the earlier one, and nothing else can
pub record Went (m : Machine) (bytes : List ℕ) (events : List Event) (n : Machine) : Type 0 where
  pub leads : (rest : List ℕ) (d : Course) → Future n rest d → (c : Course) × Future m (bytes ++ rest) c × PassesAll c events d
  pub tracks : (rest : List ℕ) (c : Course) → Future m (bytes ++ rest) c → (d : Course) × Future n rest d × PassesAll c events d

-- how the last turn ends, from this session on
pub data Stops (v w : View) (m : Machine) : SessionEnd → Type 0 where
  at_end : (end : SessionEnd) → Passed v w [] [] → IsAtEnd w.left → IsSourceEnd end → Future m [] (ends end) → Stops v w m end
  over : (end : SessionEnd) → Passed v w [] [] → ((rest : List ℕ) → Future m rest (ends end)) → Stops v w m end
  read_fault : (end : SessionEnd) → FailsToRead v w → IsSourceEnd end → Future m [] (ends end) → Stops v w m ReadFault
  write_fault : (text : List ℕ) → FailsToWrite v w text → ((rest : List ℕ) (c : Course) → Future m rest c → IsWriting text c) → Stops v w m WriteFault
  wanting : (bytes : List ℕ) (events : List Event) → Passed v w bytes events
      → ((rest : List ℕ) (c : Course) → Future m (bytes ++ rest) c → (d : Course) × PassesAll c events d) → Stops v w m NoMemory

-- one turn: the session goes on, or the run ends
abbrev pub Turned : View → View → Machine → Machine → Option SessionEnd → Type 0
Turned v w m n None = (bytes : List ℕ) × (events : List Event) × Passed v w bytes events × Went m bytes events n
Turned v w m n (Some end) = Stops v w m end

-- and where it goes on it is sound, with less room
abbrev pub GoesOn : Machine → Machine → Option SessionEnd → Type 0
GoesOn m n None = IsSettled n × IsSafe n × (n.names ≡ m.names) × Falls m n
GoesOn m n (Some end) = Unit {0}
