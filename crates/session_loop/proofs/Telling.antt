-- What a session is told and given.
use Rattle.std.proofs.Common.{◌≡◌, ℕ, ◌-◌, List, ◌++◌, Bool, Option, Some, None, Result, Ok, Err, refl, sym, ap, subst, ◌∙◌}
use Rattle.std.specs.Prelude.{decimal}
use Rattle.doc_model.specs.declared.call.Call.{Call}
use Rattle.doc_model.specs.declared.call.Sub.TheVariants.{ReadFile}
use Rattle.doc_model.specs.declared.reply.Submitted.{Submitted}
use Rattle.http_head.specs.declared.answer.Media.TheVariants.{Plain, Xml}
use Rattle.http_head.specs.declared.target.Route.{Route}
use Rattle.http_head.specs.declared.target.Route.TheVariants as route
use Rattle.envelope_read.specs.Verdicts.{verdict}
use Rattle.envelope_read.specs.declared.collection.Collection.{Collection}
use Rattle.collection_run.specs.Collections.{process}
use Rattle.collection_run.specs.Processes.{Process, says, calls, Asks, after}
use Rattle.collection_run.specs.Progress.{process_of}
use Rattle.collection_run.specs.declared.progress.Progress.{Progress}
use Rattle.session_loop.specs.Cutting.{Wish, envelope, front, file, wish_of, enveloped, is_last}
use Rattle.session_loop.specs.Courses.{Course, ends, writes, tells, counts, told, made, counted, wrote, Passes, run, answered, granted, refusing}
use Rattle.session_loop.specs.Sessions.{Machine, Serves, Follows, Judged, RunServes, FileServes, Future, FutureAt, LeadsBy, TracksBy, IsRefusing, IsAnswering, RunsOn, WantsIs}
use Rattle.session_loop.specs.declared.want.Want.{Want}
use Rattle.session_loop.specs.declared.want.Want.TheVariants.{Front}
use Rattle.session_loop.specs.declared.want.SessionEnd.{SessionEnd}
use Rattle.session_loop.specs.declared.stage.Stage.{Stage}
use Rattle.session_loop.specs.declared.stage.Stage.TheVariants.{Timing, Running, Filing, Fronting, Writing, Over}
use Rattle.session_loop.proofs.Answered.{IsAnswered, refused_future, future_refused, answered_future, future_answered}

-- ---- a count

pub front_leads : (m n : Machine) (doc count : ℕ) (close : Bool) → m.stage ≡ Fronting doc close → IsAnswering m Plain (decimal count) close n → LeadsBy m (counted doc count) n
front_leads m n doc count close at is rest d future =
    let a : IsAnswered m Plain (decimal count) close rest d = answered_future m n Plain (decimal count) close rest d is future in (
      counts doc (λ k. answered Plain (decimal k) (is_last m.left close) a.0),
      subst (λ (st : Stage). FutureAt st m rest (counts doc (λ k. answered Plain (decimal k) (is_last m.left close) a.0))) (sym at) (a.0, a.1, refl),
      (refl, a.2),
    )

pub front_tracks : (m n : Machine) (doc count : ℕ) (close : Bool) → m.stage ≡ Fronting doc close → IsAnswering m Plain (decimal count) close n → TracksBy m (counted doc count) n
front_tracks m n doc count close at is rest c future =
    let a = subst (λ (st : Stage). FutureAt st m rest c) at future in
    let d : Course = answered Plain (decimal count) (is_last m.left close) a.0 in (
      d,
      future_answered m n Plain (decimal count) close rest d is (a.0, a.1, refl),
      subst (λ (x : Course). Passes x (counted doc count) d) (sym a.2) (refl, refl),
    )

-- ---- an output

pub end_leads : (m n : Machine) (end : SessionEnd) → m.stage ≡ Writing (Some end) → n.stage ≡ Over end → LeadsBy m (wrote m.output) n
end_leads m n end at over rest d future =
    let is : d ≡ ends end = subst (λ (st : Stage). FutureAt st n rest d) over future in (
      writes m.output (ends end),
      subst (λ (st : Stage). FutureAt st m rest (writes m.output (ends end))) (sym at) refl,
      (refl, is),
    )

pub end_tracks : (m n : Machine) (end : SessionEnd) → m.stage ≡ Writing (Some end) → n.stage ≡ Over end → TracksBy m (wrote m.output) n
end_tracks m n end at over rest c future =
    let is = subst (λ (st : Stage). FutureAt st m rest c) at future in (
      ends end,
      subst (λ (st : Stage). FutureAt st n rest (ends end)) (sym over) refl,
      subst (λ (x : Course). Passes x (wrote m.output) (ends end)) (sym is) (refl, refl),
    )

-- the next request, where the input is read on
pub next_leads : (m n : Machine) → m.stage ≡ Writing None → ((rest : List ℕ) (c : Course) → Future n rest c → Serves m.names (m.left - 1) (m.input ++ rest) c)
    → LeadsBy m (wrote m.output) n
next_leads m n at reads rest d future = (
  writes m.output d,
  subst (λ (st : Stage). FutureAt st m rest (writes m.output d)) (sym at) (d, reads rest d future, refl),
  (refl, refl),
)

pub next_tracks : (m n : Machine) → m.stage ≡ Writing None → ((rest : List ℕ) (c : Course) → Serves m.names (m.left - 1) (m.input ++ rest) c → Future n rest c)
    → TracksBy m (wrote m.output) n
next_tracks m n at reads rest c future =
    let a = subst (λ (st : Stage). FutureAt st m rest c) at future in (
      a.0,
      reads rest a.0 a.1,
      subst (λ (x : Course). Passes x (wrote m.output) a.0) (sym a.2) (refl, refl),
    )

-- ---- the moment

abbrev WishServes : Machine → ℕ → Bool → Wish → List ℕ → Course → Type 0
WishServes m moment close wish rest d = (go_on : Course) × Follows m.names m.left close (m.input ++ rest) go_on
    × (d ≡ granted m.names moment m.user wish (is_last m.left close) go_on)

pub wish_leads : (m n : Machine) (r : Route) (moment : ℕ) (close : Bool) (wish : Wish) → m.stage ≡ Timing r close → wish_of r m.body.body ≡ Ok wish
    → ((rest : List ℕ) (d : Course) → Future n rest d → WishServes m moment close wish rest d) → LeadsBy m (told moment) n
wish_leads m n r moment close wish at is serves rest d future =
    let a : WishServes m moment close wish rest d = serves rest d future in
    let c : Course = tells (λ k. granted m.names k m.user wish (is_last m.left close) a.0) in (
      c,
      subst (λ (st : Stage). FutureAt st m rest c) (sym at)
          (subst (λ (w : Result Wish ℕ). Judged m close w (m.input ++ rest) c) (sym is) (a.0, a.1, refl)),
      a.2,
    )

pub wish_tracks : (m n : Machine) (r : Route) (moment : ℕ) (close : Bool) (wish : Wish) → m.stage ≡ Timing r close → wish_of r m.body.body ≡ Ok wish
    → ((rest : List ℕ) (d : Course) → WishServes m moment close wish rest d → Future n rest d) → TracksBy m (told moment) n
wish_tracks m n r moment close wish at is serves rest c future =
    let a = subst (λ (w : Result Wish ℕ). Judged m close w (m.input ++ rest) c) is (subst (λ (st : Stage). FutureAt st m rest c) at future) in
    let d : Course = granted m.names moment m.user wish (is_last m.left close) a.0 in (
      d,
      serves rest d (a.0, a.1, refl),
      subst (λ (x : Course). Passes x (told moment) d) (sym a.2) refl,
    )

pub refusal_leads : (m n : Machine) (r : Route) (moment status : ℕ) (close : Bool) → m.stage ≡ Timing r close → wish_of r m.body.body ≡ Err status → IsRefusing status n
    → LeadsBy m (told moment) n
refusal_leads m n r moment status close at is refuses rest d future = (
  tells (λ k. refusing status),
  subst (λ (st : Stage). FutureAt st m rest (tells (λ k. refusing status))) (sym at)
      (subst (λ (w : Result Wish ℕ). Judged m close w (m.input ++ rest) (tells (λ k. refusing status))) (sym is) refl),
  refused_future status n rest d refuses future,
)

pub refusal_tracks : (m n : Machine) (r : Route) (moment status : ℕ) (close : Bool) → m.stage ≡ Timing r close → wish_of r m.body.body ≡ Err status → IsRefusing status n
    → TracksBy m (told moment) n
refusal_tracks m n r moment status close at is refuses rest c future =
    let a = subst (λ (w : Result Wish ℕ). Judged m close w (m.input ++ rest) c) is (subst (λ (st : Stage). FutureAt st m rest c) at future) in (
      refusing status,
      future_refused status n rest (refusing status) refuses refl,
      subst (λ (x : Course). Passes x (told moment) (refusing status)) (sym a) refl,
    )

-- ---- a call

run_makes : (p : Process) (doc : ℕ) (call : Call) (k : List ℕ → Course) (submitted : Submitted) → Asks p doc call → Passes (run p k) (made doc call submitted) (run (after p submitted) k)
run_makes (says text) doc call k submitted asks = absurd asks
run_makes (calls d c go_on) doc call k submitted asks = (sym asks.0, sym asks.1, refl)

pub run_leads : (m n : Machine) (p q : Progress) (doc : ℕ) (call : Call) (submitted : Submitted) (close : Bool) → m.stage ≡ Running doc close → m.runner ≡ Some p
    → Asks (process_of p) doc call → process_of q ≡ after (process_of p) submitted → RunsOn m q close n → LeadsBy m (made doc call submitted) n
run_leads m n p q doc call submitted close at runner asks goes on rest d future =
    let a : RunServes m close (Some q) (m.input ++ rest) d = on.back rest d future in
    let k : List ℕ → Course = λ text. answered Xml text (is_last m.left close) a.0 in
    let c : Course = run (process_of p) k in (
      c,
      subst (λ (st : Stage). FutureAt st m rest c) (sym at)
          (subst (λ (x : Option Progress). RunServes m close x (m.input ++ rest) c) (sym runner) (a.0, a.1, refl)),
      subst (λ (x : Course). Passes c (made doc call submitted) x) (sym (a.2 ∙ ap (λ (x : Process). run x k) goes)) (run_makes (process_of p) doc call k submitted asks),
    )

pub run_tracks : (m n : Machine) (p q : Progress) (doc : ℕ) (call : Call) (submitted : Submitted) (close : Bool) → m.stage ≡ Running doc close → m.runner ≡ Some p
    → Asks (process_of p) doc call → process_of q ≡ after (process_of p) submitted → RunsOn m q close n → TracksBy m (made doc call submitted) n
run_tracks m n p q doc call submitted close at runner asks goes on rest c future =
    let a = subst (λ (x : Option Progress). RunServes m close x (m.input ++ rest) c) runner (subst (λ (st : Stage). FutureAt st m rest c) at future) in
    let k : List ℕ → Course = λ text. answered Xml text (is_last m.left close) a.0 in
    let d : Course = run (process_of q) k in (
      d,
      on.on rest d (a.0, a.1, refl),
      subst (λ (x : Course). Passes x (made doc call submitted) d) (sym a.2)
          (subst (λ (x : Course). Passes (run (process_of p) k) (made doc call submitted) x) (sym (ap (λ (x : Process). run x k) goes)) (run_makes (process_of p) doc call k submitted asks)),
    )

-- whichever document is named
same_doc : (doc d : ℕ) → ◌≡◌ {A = Want} (Front doc) (Front d) → doc ≡ d
same_doc doc d e = cc

pub front_leads_any : (m n : Machine) (d count : ℕ) (close : Bool) → m.stage ≡ Fronting d close → IsAnswering m Plain (decimal count) close n
    → (doc : ℕ) → WantsIs m.stage (Front doc) → LeadsBy m (counted doc count) n
front_leads_any m n d count close at is doc wants =
    subst (λ (k : ℕ). LeadsBy m (counted k count) n) (sym (same_doc doc d (subst (λ (st : Stage). WantsIs st (Front doc)) at wants))) (front_leads m n d count close at is)

pub front_tracks_any : (m n : Machine) (d count : ℕ) (close : Bool) → m.stage ≡ Fronting d close → IsAnswering m Plain (decimal count) close n
    → (doc : ℕ) → WantsIs m.stage (Front doc) → TracksBy m (counted doc count) n
front_tracks_any m n d count close at is doc wants =
    subst (λ (k : ℕ). TracksBy m (counted k count) n) (sym (same_doc doc d (subst (λ (st : Stage). WantsIs st (Front doc)) at wants))) (front_tracks m n d count close at is)

-- ---- an envelope

pub envelope_leads : (m n : Machine) (p : Progress) (collection : Collection) (moment : ℕ) (close : Bool) → m.stage ≡ Timing route.Cells close → verdict m.body.body ≡ Ok collection
    → process_of p ≡ process (record { names = m.names; moment = moment; user = m.user }) collection → RunsOn m p close n → LeadsBy m (told moment) n
envelope_leads m n p collection moment close at read is on =
    wish_leads m n route.Cells moment close (envelope collection) at (ap enveloped read) (λ rest d future.
    let a : RunServes m close (Some p) (m.input ++ rest) d = on.back rest d future in
    (a.0, a.1, a.2 ∙ ap (λ (x : Process). run x (λ text. answered Xml text (is_last m.left close) a.0)) is))

pub envelope_tracks : (m n : Machine) (p : Progress) (collection : Collection) (moment : ℕ) (close : Bool) → m.stage ≡ Timing route.Cells close → verdict m.body.body ≡ Ok collection
    → process_of p ≡ process (record { names = m.names; moment = moment; user = m.user }) collection → RunsOn m p close n → TracksBy m (told moment) n
envelope_tracks m n p collection moment close at read is on =
    wish_tracks m n route.Cells moment close (envelope collection) at (ap enveloped read) (λ rest d a.
    on.on rest d (a.0, a.1, a.2 ∙ ap (λ (x : Process). run x (λ text. answered Xml text (is_last m.left close) a.0)) (sym is)))

-- ---- a count or a file is asked for

route_front : (r : Route) (doc : ℕ) (body : List ℕ) → r ≡ route.Front doc → wish_of r body ≡ Ok (front doc)
route_front r doc body e = ap (λ (x : Route). wish_of x body) e

pub fronting_leads : (m n : Machine) (r : Route) (doc moment : ℕ) (close : Bool) → m.stage ≡ Timing r close → r ≡ route.Front doc
    → n.names ≡ m.names → n.left ≡ m.left → n.input ≡ m.input → n.stage ≡ Fronting doc close → LeadsBy m (told moment) n
fronting_leads m n r doc moment close at is names left input out =
    wish_leads m n r moment close (front doc) at (route_front r doc m.body.body is) (λ rest d future.
    rw (← names, ← left, ← input) (subst (λ (st : Stage). FutureAt st n rest d) out future))

pub fronting_tracks : (m n : Machine) (r : Route) (doc moment : ℕ) (close : Bool) → m.stage ≡ Timing r close → r ≡ route.Front doc
    → n.names ≡ m.names → n.left ≡ m.left → n.input ≡ m.input → n.stage ≡ Fronting doc close → TracksBy m (told moment) n
fronting_tracks m n r doc moment close at is names left input out =
    wish_tracks m n r moment close (front doc) at (route_front r doc m.body.body is) (λ rest d a.
    subst (λ (st : Stage). FutureAt st n rest d) (sym out) (rw (names, left, input) a))

route_file : (r : Route) (doc : ℕ) (body : List ℕ) → r ≡ route.File doc → wish_of r body ≡ Ok (file doc)
route_file r doc body e = ap (λ (x : Route). wish_of x body) e

abbrev pub reading_call : ℕ → List ℕ → Call
reading_call moment user = record { moment = moment; user = user; sub = ReadFile }

pub filing_leads : (m n : Machine) (r : Route) (doc moment : ℕ) (close : Bool) → m.stage ≡ Timing r close → r ≡ route.File doc
    → n.names ≡ m.names → n.left ≡ m.left → n.input ≡ m.input → n.stage ≡ Filing doc close → n.call ≡ Some (reading_call moment m.user) → LeadsBy m (told moment) n
filing_leads m n r doc moment close at is names left input out call =
    wish_leads m n r moment close (file doc) at (route_file r doc m.body.body is) (λ rest d future.
    rw (← names, ← left, ← input) (subst (λ (x : Option Call). FileServes n doc close x (n.input ++ rest) d) call (subst (λ (st : Stage). FutureAt st n rest d) out future)))

pub filing_tracks : (m n : Machine) (r : Route) (doc moment : ℕ) (close : Bool) → m.stage ≡ Timing r close → r ≡ route.File doc
    → n.names ≡ m.names → n.left ≡ m.left → n.input ≡ m.input → n.stage ≡ Filing doc close → n.call ≡ Some (reading_call moment m.user) → TracksBy m (told moment) n
filing_tracks m n r doc moment close at is names left input out call =
    wish_tracks m n r moment close (file doc) at (route_file r doc m.body.body is) (λ rest d a.
    subst (λ (st : Stage). FutureAt st n rest d) (sym out) (subst (λ (x : Option Call). FileServes n doc close x (n.input ++ rest) d) (sym call) (rw (names, left, input) a)))
