-- What is known of a session by what it wants.
use Rattle.std.proofs.Common.{◌≡◌, ℕ, List, [], ◌++◌, Bool, true, false, Option, Some, None, Result, Ok, Err, refl, sym, ap, subst, inl, inr, arith}
use Rattle.std.specs.Prelude.{decimal, if◌then◌else◌}
use Rattle.std.specs.List.{list_any}
use Rattle.doc_model.specs.declared.call.Call.{Call}
use Rattle.doc_model.specs.declared.reply.Submitted.{Submitted}
use Rattle.http_head.specs.Heads.{is_text}
use Rattle.http_head.specs.declared.answer.Media.TheVariants.{Xml, Plain}
use Rattle.collection_run.specs.Processes.{Process, says, calls, Asks}
use Rattle.collection_run.specs.Progress.{process_of}
use Rattle.collection_run.specs.declared.progress.Progress.{Progress}
use Rattle.session_loop.specs.Cutting.{Wish, wish_of, is_last}
use Rattle.session_loop.specs.Courses.{Course, ends, refusing, granted, run, answered, file_answered, wrote, told, made, counted, Passes}
use Rattle.session_loop.specs.Driving.{IsWriting, IsSourceEnd}
use Rattle.session_loop.specs.Rooms.{RoomAt, RunRoom, HasRoom, later}
use Rattle.session_loop.specs.Sessions.{Machine, Judged, RunServes, FileServes, Future, FutureAt, WantsIs, IsOutOf, CallAt, IsCallOf, SettledAt, IsSettled}
use Rattle.session_loop.specs.declared.want.SessionEnd.{SessionEnd}
use Rattle.session_loop.specs.declared.want.SessionEnd.TheVariants.{Ended, CutOff}
use Rattle.session_loop.specs.declared.want.Want.{Want}
use Rattle.session_loop.specs.declared.want.Want.TheVariants.{Bytes, Moment, Submit, Front, Write, End}
use Rattle.session_loop.specs.declared.stage.Stage.{Stage}
use Rattle.session_loop.specs.declared.stage.Stage.TheVariants.{Heading, InBody, Timing, Running, Filing, Fronting, Writing, Over}
use Rattle.session_loop.proofs.Ending.{ends_at}

-- ---- that its output is written

written_at : (stage : Stage) (m : Machine) (rest : List ℕ) (c : Course) → WantsIs stage Write → FutureAt stage m rest c → IsWriting m.output c
written_at (Writing (Some end)) m rest c wants future = (ends end, future)
written_at (Writing None) m rest c wants (go_on, serves, is) = (go_on, is)
written_at Heading m rest c wants future = absurd cc
written_at (InBody route close) m rest c wants future = absurd cc
written_at (Timing route close) m rest c wants future = absurd cc
written_at (Running doc close) m rest c wants future = absurd cc
written_at (Filing doc close) m rest c wants future = absurd cc
written_at (Fronting doc close) m rest c wants future = absurd cc
written_at (Over end) m rest c wants future = absurd cc

pub writing : (m : Machine) → WantsIs m.stage Write → (rest : List ℕ) (c : Course) → Future m rest c → IsWriting m.output c
writing m wants rest c future = written_at m.stage m rest c wants future

pub written_passes : (m : Machine) → WantsIs m.stage Write → (rest : List ℕ) (c : Course) → Future m rest c → (d : Course) × Passes c (wrote m.output) d
written_passes m wants rest c future =
    let x = writing m wants rest c future in
    (x.0, subst (λ (k : Course). Passes k (wrote m.output) x.0) (sym x.1) (refl, refl))

-- ---- the moment

judged_passes : (m : Machine) (close : Bool) (w : Result Wish ℕ) (bytes : List ℕ) (c : Course) (moment : ℕ) → Judged m close w bytes c → (d : Course) × Passes c (told moment) d
judged_passes m close (Err status) bytes c moment is = (refusing status, subst (λ (k : Course). Passes k (told moment) (refusing status)) (sym is) refl)
judged_passes m close (Ok wish) bytes c moment (go_on, follows, is) =
    let d : Course = granted m.names moment m.user wish (is_last m.left close) go_on in
    (d, subst (λ (k : Course). Passes k (told moment) d) (sym is) refl)

told_at : (stage : Stage) (m : Machine) (rest : List ℕ) (c : Course) (moment : ℕ) → WantsIs stage Moment → FutureAt stage m rest c → (d : Course) × Passes c (told moment) d
told_at (Timing route close) m rest c moment wants future = judged_passes m close (wish_of route m.body.body) (m.input ++ rest) c moment future
told_at Heading m rest c moment wants future = absurd cc
told_at (InBody route close) m rest c moment wants future = absurd cc
told_at (Running doc close) m rest c moment wants future = absurd cc
told_at (Filing doc close) m rest c moment wants future = absurd cc
told_at (Fronting doc close) m rest c moment wants future = absurd cc
told_at (Writing next) m rest c moment wants future = absurd cc
told_at (Over end) m rest c moment wants future = absurd cc

pub told_passes : (m : Machine) (moment : ℕ) → WantsIs m.stage Moment → (rest : List ℕ) (c : Course) → Future m rest c → (d : Course) × Passes c (told moment) d
told_passes m moment wants rest c future = told_at m.stage m rest c moment wants future

-- ---- a call

same_doc : (doc d : ℕ) → ◌≡◌ {A = Want} (Submit doc) (Submit d) → doc ≡ d
same_doc doc d e = cc

run_passes : (p : Process) (k : List ℕ → Course) (doc : ℕ) (call : Call) (submitted : Submitted) → Asks p doc call → (d : Course) × Passes (run p k) (made doc call submitted) d
run_passes (says text) k doc call submitted asks = absurd asks
run_passes (calls d c next) k doc call submitted asks = (run (next submitted) k, (sym asks.0, sym asks.1, refl))

out_passes : (m : Machine) (close : Bool) (r : Option Progress) (bytes : List ℕ) (c : Course) (doc : ℕ) (call : Call) (submitted : Submitted) → IsOutOf r doc call → RunServes m close r bytes c
    → (d : Course) × Passes c (made doc call submitted) d
out_passes m close None bytes c doc call submitted out serves = absurd out
out_passes m close (Some p) bytes c doc call submitted out (go_on, follows, is) =
    let x = run_passes (process_of p) (λ text. answered Xml text (is_last m.left close) go_on) doc call submitted out.1 in
    (x.0, subst (λ (k : Course). Passes k (made doc call submitted) x.0) (sym is) x.1)

file_passes : (m : Machine) (d : ℕ) (close : Bool) (o : Option Call) (bytes : List ℕ) (c : Course) (call : Call) (submitted : Submitted) → o ≡ Some call → FileServes m d close o bytes c
    → (e : Course) × Passes c (made d call submitted) e
file_passes m d close None bytes c call submitted out serves = absurd serves
file_passes m d close (Some other) bytes c call submitted out (go_on, follows, is) =
    let e : Course = file_answered submitted (is_last m.left close) go_on in
    (e, subst (λ (k : Course). Passes k (made d call submitted) e) (sym is) (refl, sym (same other call out), refl))
  where
    same : (a b : Call) → ◌≡◌ {A = Option Call} (Some a) (Some b) → a ≡ b
    same a b e = cc

made_at : (stage : Stage) (m : Machine) (doc : ℕ) (call : Call) (submitted : Submitted) (rest : List ℕ) (c : Course) → WantsIs stage (Submit doc) → CallAt stage m call → FutureAt stage m rest c
    → (d : Course) × Passes c (made doc call submitted) d
made_at (Running d close) m doc call submitted rest c wants out future =
    subst (λ (i : ℕ). (e : Course) × Passes c (made i call submitted) e) (sym (same_doc doc d wants)) (out_passes m close m.runner (m.input ++ rest) c d call submitted out future)
made_at (Filing d close) m doc call submitted rest c wants out future =
    subst (λ (i : ℕ). (e : Course) × Passes c (made i call submitted) e) (sym (same_doc doc d wants)) (file_passes m d close m.call (m.input ++ rest) c call submitted out future)
made_at Heading m doc call submitted rest c wants out future = absurd out
made_at (InBody route close) m doc call submitted rest c wants out future = absurd out
made_at (Timing route close) m doc call submitted rest c wants out future = absurd out
made_at (Fronting d close) m doc call submitted rest c wants out future = absurd out
made_at (Writing next) m doc call submitted rest c wants out future = absurd out
made_at (Over end) m doc call submitted rest c wants out future = absurd out

pub made_passes : (m : Machine) (doc : ℕ) (call : Call) (submitted : Submitted) → WantsIs m.stage (Submit doc) → IsCallOf m call
    → (rest : List ℕ) (c : Course) → Future m rest c → (d : Course) × Passes c (made doc call submitted) d
made_passes m doc call submitted wants out rest c future = made_at m.stage m doc call submitted rest c wants out future

-- ---- a count

same_front : (doc d : ℕ) → ◌≡◌ {A = Want} (Front doc) (Front d) → doc ≡ d
same_front doc d e = cc

counted_at : (stage : Stage) (m : Machine) (doc count : ℕ) (rest : List ℕ) (c : Course) → WantsIs stage (Front doc) → FutureAt stage m rest c → (d : Course) × Passes c (counted doc count) d
counted_at (Fronting d close) m doc count rest c wants (go_on, follows, is) =
    let e : Course = answered Plain (decimal count) (is_last m.left close) go_on in
    (e, subst (λ (k : Course). Passes k (counted doc count) e) (sym is) (same_front doc d wants, refl))
counted_at Heading m doc count rest c wants future = absurd cc
counted_at (InBody route close) m doc count rest c wants future = absurd cc
counted_at (Timing route close) m doc count rest c wants future = absurd cc
counted_at (Running d close) m doc count rest c wants future = absurd cc
counted_at (Filing d close) m doc count rest c wants future = absurd cc
counted_at (Writing next) m doc count rest c wants future = absurd cc
counted_at (Over end) m doc count rest c wants future = absurd cc

pub counted_passes : (m : Machine) (doc count : ℕ) → WantsIs m.stage (Front doc) → (rest : List ℕ) (c : Course) → Future m rest c → (d : Course) × Passes c (counted doc count) d
counted_passes m doc count wants rest c future = counted_at m.stage m doc count rest c wants future

-- ---- nothing

same_end : (a b : SessionEnd) → ◌≡◌ {A = Want} (End a) (End b) → a ≡ b
same_end a b e = cc

over_at : (stage : Stage) (m : Machine) (rest : List ℕ) (end : SessionEnd) → WantsIs stage (End end) → FutureAt stage m rest (ends end)
over_at (Over last) m rest end wants = ap ends (same_end end last wants)
over_at Heading m rest end wants = absurd cc
over_at (InBody route close) m rest end wants = absurd cc
over_at (Timing route close) m rest end wants = absurd cc
over_at (Running doc close) m rest end wants = absurd cc
over_at (Filing doc close) m rest end wants = absurd cc
over_at (Fronting doc close) m rest end wants = absurd cc
over_at (Writing next) m rest end wants = absurd cc

pub over_future : (m : Machine) (rest : List ℕ) (end : SessionEnd) → WantsIs m.stage (End end) → Future m rest (ends end)
over_future m rest end wants = over_at m.stage m rest end wants

spent_at : (stage : Stage) (m : Machine) → RoomAt stage m 0 → (end : SessionEnd) × WantsIs stage (End end)
spent_at (Over end) m room = (end, refl)
spent_at Heading m room = absurd (omega (arith, room.1))
spent_at (InBody route close) m room = absurd (omega (arith, room.1))
spent_at (Timing route close) m room = absurd (omega (arith, room.1))
spent_at (Running doc close) m room = absurd (go m.runner room.1)
  where
    go : (r : Option Progress) → RunRoom r (later m.left) 0 → ⊥
    go None h = h
    go (Some p) (k, few, le) = omega (arith, le)
spent_at (Filing doc close) m room = absurd (omega (arith, room.1))
spent_at (Fronting doc close) m room = absurd (omega (arith, room.1))
spent_at (Writing (Some end)) m room = absurd (omega (arith, room))
spent_at (Writing None) m room = absurd (omega (arith, room.1))

-- a session without room has ended
pub spent : (m : Machine) → HasRoom m 0 → (end : SessionEnd) × WantsIs m.stage (End end)
spent m room = spent_at m.stage m room

-- ---- bytes

source_end : (b : Bool) → IsSourceEnd (if b then CutOff else Ended)
source_end true = inr refl
source_end false = inl refl

bytes_at : (stage : Stage) (m : Machine) → SettledAt stage m → WantsIs stage Bytes → (end : SessionEnd) × IsSourceEnd end × FutureAt stage m [] (ends end)
bytes_at Heading m settled wants =
    let end : SessionEnd = if list_any is_text m.input then CutOff else Ended in
    (end, source_end (list_any is_text m.input), ends_at Heading m end settled wants refl)
bytes_at (InBody route close) m settled wants = (CutOff, inr refl, ends_at (InBody route close) m CutOff settled wants refl)
bytes_at (Timing route close) m settled wants = absurd cc
bytes_at (Running doc close) m settled wants = absurd cc
bytes_at (Filing doc close) m settled wants = absurd cc
bytes_at (Fronting doc close) m settled wants = absurd cc
bytes_at (Writing next) m settled wants = absurd cc
bytes_at (Over end) m settled wants = absurd cc

-- how it would end if no more bytes came
pub bytes_end : (m : Machine) → IsSettled m → WantsIs m.stage Bytes → (end : SessionEnd) × IsSourceEnd end × Future m [] (ends end)
bytes_end m settled wants = bytes_at m.stage m settled wants
