-- What a session is, and what can still come of it.
use Rattle.std.specs.Prelude.{◌≡◌, ℕ, ◌-◌, List, [], ◌++◌, drop, Bool, false, IsTrue, Result, Ok, Err, decimal, if◌then◌else◌, Option, Some, None}
use Rattle.std.specs.List.{list_any}
use Rattle.doc_model.specs.declared.call.Call.{Call}
use Rattle.doc_model.specs.declared.reply.Reply.TheVariants.{File}
use Rattle.doc_model.specs.declared.reply.Submitted.{Submitted}
use Rattle.doc_model.specs.declared.reply.Submitted.TheVariants.{Answered}
use Rattle.http_head.specs.Answers.{answer_text}
use Rattle.http_head.specs.Bodies.{Reading, IsOpen}
use Rattle.http_head.specs.Heads.{is_text, FindsHeadEnd}
use Rattle.http_head.specs.declared.answer.Media.{Media}
use Rattle.http_head.specs.declared.answer.Media.TheVariants.{Xml, Plain, Binary}
use Rattle.http_head.specs.declared.head.HeadEnd.TheVariants.{More}
use Rattle.http_head.specs.declared.target.Route.{Route}
use Rattle.collection_run.specs.declared.progress.Progress.{Progress}
use Rattle.collection_run.specs.Processes.{Asks}
use Rattle.collection_run.specs.Progress.{process_of}
use Rattle.session_loop.specs.Cutting.{Wish, Request, Ending, StopsInBody, IsBody, wish_of, is_last, Cut}
use Rattle.session_loop.specs.Courses.{Course, ends, writes, tells, makes, counts, Event, Passes, run, answered, file_answered, granted, refusal, refusing, ending_course, course}
use Rattle.session_loop.specs.declared.want.SessionEnd.{SessionEnd}
use Rattle.session_loop.specs.declared.want.SessionEnd.TheVariants.{Ended, CutOff, Refused}
use Rattle.session_loop.specs.declared.want.Want.{Want}
use Rattle.session_loop.specs.declared.want.Want.TheVariants.{Bytes, Moment, Submit, Front, Write, End}
use Rattle.session_loop.specs.declared.stage.Stage.{Stage}
use Rattle.session_loop.specs.declared.stage.Stage.TheVariants.{Heading, InBody, Timing, Running, Filing, Fronting, Writing, Over}

-- a session, as contracts see it
pub record Machine : Type 0 where
  pub names : List (List ℕ)
  -- how many requests may still come, with the present one
  pub left : ℕ
  pub stage : Stage
  -- the bytes that came and are not used yet
  pub input : List ℕ
  pub body : Reading
  pub user : List ℕ
  -- the present envelope, and the call that is out
  pub runner : Option Progress
  pub call : Option Call
  pub output : List ℕ

-- ---- what can still come

-- the course of these bytes, of which so many requests may come
abbrev pub Serves : List (List ℕ) → ℕ → List ℕ → Course → Type 0
Serves names left bytes c = (requests : List Request) × (ending : Ending) × Cut names left bytes requests ending × (c ≡ course names left requests ending)

-- what follows a request: nothing where its answer closes, else further requests
pub record Follows (names : List (List ℕ)) (left : ℕ) (close : Bool) (bytes : List ℕ) (c : Course) : Type 0 where
  pub closes : IsTrue (is_last left close) → c ≡ ends Ended
  pub stays : is_last left close ≡ false → Serves names (left - 1) bytes c

-- the present request, once its body is whole, with what follows it
abbrev pub Judged : Machine → Bool → Result Wish ℕ → List ℕ → Course → Type 0
Judged m close (Err status) bytes c = c ≡ tells (λ moment. refusing status)
Judged m close (Ok wish) bytes c = (go_on : Course) × Follows m.names m.left close bytes go_on
    × (c ≡ tells (λ moment. granted m.names moment m.user wish (is_last m.left close) go_on))

-- the present request, whose body is being read
pub data BodyServes (m : Machine) (route : Route) (close : Bool) (bytes : List ℕ) (c : Course) : Type 0 where
  stops : (ending : Ending) → StopsInBody route m.body bytes ending → c ≡ ending_course ending → BodyServes m route close bytes c
  whole : (used : ℕ) (body : List ℕ) (wish : Wish) → IsBody m.body bytes used body → wish_of route body ≡ Ok wish
      → Judged m close (Ok wish) (drop used bytes) c → BodyServes m route close bytes c

-- what an envelope still asks, its answer, and what follows it
abbrev pub RunServes : Machine → Bool → Option Progress → List ℕ → Course → Type 0
RunServes m close None bytes c = ⊥
RunServes m close (Some p) bytes c = (go_on : Course) × Follows m.names m.left close bytes go_on
    × (c ≡ run (process_of p) (λ text. answered Xml text (is_last m.left close) go_on))

abbrev pub FileServes : Machine → ℕ → Bool → Option Call → List ℕ → Course → Type 0
FileServes m doc close None bytes c = ⊥
FileServes m doc close (Some call) bytes c = (go_on : Course) × Follows m.names m.left close bytes go_on
    × (c ≡ makes doc call (λ submitted. file_answered submitted (is_last m.left close) go_on))

-- with these bytes still to come, and then the end of the source, this is the course
abbrev pub FutureAt : Stage → Machine → List ℕ → Course → Type 0
FutureAt Heading m rest c = Serves m.names m.left (m.input ++ rest) c
FutureAt (InBody route close) m rest c = BodyServes m route close rest c
FutureAt (Timing route close) m rest c = Judged m close (wish_of route m.body.body) (m.input ++ rest) c
FutureAt (Running doc close) m rest c = RunServes m close m.runner (m.input ++ rest) c
FutureAt (Filing doc close) m rest c = FileServes m doc close m.call (m.input ++ rest) c
FutureAt (Fronting doc close) m rest c = (go_on : Course) × Follows m.names m.left close (m.input ++ rest) go_on
    × (c ≡ counts doc (λ count. answered Plain (decimal count) (is_last m.left close) go_on))
FutureAt (Writing (Some end)) m rest c = c ≡ writes m.output (ends end)
FutureAt (Writing None) m rest c = (go_on : Course) × Serves m.names (m.left - 1) (m.input ++ rest) go_on × (c ≡ writes m.output go_on)
FutureAt (Over end) m rest c = c ≡ ends end

abbrev pub Future : Machine → List ℕ → Course → Type 0
Future m rest c = FutureAt m.stage m rest c

-- ---- steps, both ways

-- the session went on over these bytes: what can come of it can come of the earlier one, behind the bytes
abbrev pub Leads : Machine → List ℕ → Machine → Type 0
Leads m bytes n = (rest : List ℕ) (c : Course) → Future n rest c → Future m (bytes ++ rest) c

-- and nothing else can
abbrev pub Tracks : Machine → List ℕ → Machine → Type 0
Tracks m bytes n = (rest : List ℕ) (c : Course) → Future m (bytes ++ rest) c → Future n rest c

-- the same behind an event
abbrev pub LeadsBy : Machine → Event → Machine → Type 0
LeadsBy m event n = (rest : List ℕ) (d : Course) → Future n rest d → (c : Course) × Future m rest c × Passes c event d

abbrev pub TracksBy : Machine → Event → Machine → Type 0
TracksBy m event n = (rest : List ℕ) (c : Course) → Future m rest c → (d : Course) × Future n rest d × Passes c event d

-- the source has ended: the session ends so, as alone it can
pub record Closes (m : Machine) (n : Machine) : Type 0 where
  pub end : SessionEnd
  pub stage : n.stage ≡ Over end
  pub leads : Future m [] (ends end)
  pub tracks : (c : Course) → Future m [] c → c ≡ ends end

-- ---- what a session wants

abbrev pub WantsIs : Stage → Want → Type 0
WantsIs Heading want = want ≡ Bytes
WantsIs (InBody route close) want = want ≡ Bytes
WantsIs (Timing route close) want = want ≡ Moment
WantsIs (Running doc close) want = want ≡ Submit doc
WantsIs (Filing doc close) want = want ≡ Submit doc
WantsIs (Fronting doc close) want = want ≡ Front doc
WantsIs (Writing next) want = want ≡ Write
WantsIs (Over end) want = want ≡ End end

-- the call of the runner that is out is the next one of its document
abbrev pub IsOutOf : Option Progress → ℕ → Call → Type 0
IsOutOf None doc call = ⊥
IsOutOf (Some p) doc call = (p.call ≡ Some call) × Asks (process_of p) doc call

-- the call that is out
abbrev pub CallAt : Stage → Machine → Call → Type 0
CallAt (Running doc close) m call = IsOutOf m.runner doc call
CallAt (Filing doc close) m call = m.call ≡ Some call
CallAt stage m call = ⊥

abbrev pub IsCallOf : Machine → Call → Type 0
IsCallOf m call = CallAt m.stage m call

-- where bytes are wanted, none of those that came is left over: a head goes on, or a body is open; and a call that is wanted is out
abbrev pub SettledAt : Stage → Machine → Type 0
SettledAt Heading m = FindsHeadEnd m.input More
SettledAt (InBody route close) m = IsOpen m.body.place × (m.input ≡ [])
SettledAt (Running doc close) m = (call : Call) × IsOutOf m.runner doc call
SettledAt (Filing doc close) m = (call : Call) × (m.call ≡ Some call)
SettledAt stage m = Unit {0}

abbrev pub IsSettled : Machine → Type 0
IsSettled m = SettledAt m.stage m

-- before the first byte
pub record IsFresh (names : List (List ℕ)) (m : Machine) : Type 0 where
  pub names_are : m.names ≡ names
  pub left : m.left ≡ 10_000
  pub stage : m.stage ≡ Heading
  pub input : m.input ≡ []

-- how a session ends where its source does
abbrev pub EndIs : Stage → List ℕ → SessionEnd → Type 0
EndIs Heading input end = end ≡ (if list_any is_text input then CutOff else Ended)
EndIs stage input end = end ≡ CutOff

-- ---- parts of steps

-- it writes the refusal of the present request, and then ends
pub record IsRefusing (status : ℕ) (n : Machine) : Type 0 where
  pub stage : n.stage ≡ Writing (Some (Refused status))
  pub output : n.output ≡ refusal status

abbrev pub next_of : Bool → Option SessionEnd
next_of last = if last then Some Ended else None

-- it writes this answer to the present request, and then goes on or ends
pub record IsAnswering (m : Machine) (media : Media) (body : List ℕ) (close : Bool) (n : Machine) : Type 0 where
  pub stage : n.stage ≡ Writing (next_of (is_last m.left close))
  pub output : n.output ≡ answer_text 200 media body (is_last m.left close)
  pub names : n.names ≡ m.names
  pub left : n.left ≡ m.left
  pub input : n.input ≡ m.input

-- it went on over these bytes of the body of the present request
abbrev pub LeadsInBody : Machine → Route → Bool → List ℕ → Machine → Type 0
LeadsInBody m route close bytes n = (rest : List ℕ) (c : Course) → Future n rest c → BodyServes m route close (bytes ++ rest) c

abbrev pub TracksInBody : Machine → Route → Bool → List ℕ → Machine → Type 0
TracksInBody m route close bytes n = (rest : List ℕ) (c : Course) → BodyServes m route close (bytes ++ rest) c → Future n rest c

-- it goes on with the envelope
pub record RunsOn (m : Machine) (p : Progress) (close : Bool) (n : Machine) : Type 0 where
  pub back : (rest : List ℕ) (c : Course) → Future n rest c → RunServes m close (Some p) (m.input ++ rest) c
  pub on : (rest : List ℕ) (c : Course) → RunServes m close (Some p) (m.input ++ rest) c → Future n rest c

-- it answers the file
pub record IsFiled (m : Machine) (submitted : Submitted) (close : Bool) (n : Machine) : Type 0 where
  pub bytes : List ℕ
  pub is_file : submitted ≡ Answered (File bytes)
  pub answering : IsAnswering m Binary bytes close n
