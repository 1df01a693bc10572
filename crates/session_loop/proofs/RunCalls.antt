-- How an envelope and a file go on.
use Rattle.std.proofs.Common.{◌≡◌, ℕ, List, ◌++◌, Bool, Option, Some, refl, sym, ap, subst, ◌∙◌}
use Rattle.doc_model.specs.declared.call.Call.{Call}
use Rattle.doc_model.specs.declared.reply.Submitted.{Submitted}
use Rattle.http_head.specs.declared.answer.Media.TheVariants.{Xml, Binary}
use Rattle.collection_run.specs.Processes.{Process, says, after}
use Rattle.collection_run.specs.Progress.{process_of}
use Rattle.collection_run.specs.declared.progress.Progress.{Progress}
use Rattle.session_loop.specs.Cutting.{is_last}
use Rattle.session_loop.specs.Courses.{Course, makes, made, Passes, run, answered, file_answered}
use Rattle.session_loop.specs.Sessions.{Machine, FileServes, FutureAt, LeadsBy, TracksBy, IsAnswering, IsFiled, RunsOn, WantsIs, IsOutOf, CallAt, IsCallOf}
use Rattle.session_loop.specs.declared.want.Want.{Want}
use Rattle.session_loop.specs.declared.want.Want.TheVariants.{Submit}
use Rattle.session_loop.specs.declared.stage.Stage.{Stage}
use Rattle.session_loop.specs.declared.stage.Stage.TheVariants.{Running, Filing}
use Rattle.session_loop.proofs.Answered.{IsAnswered, answered_future, future_answered}
use Rattle.session_loop.proofs.Telling.{run_leads, run_tracks}

-- what follows the text of the present envelope
abbrev behind : Machine → Bool → Course → List ℕ → Course
behind m close go_on text = answered Xml text (is_last m.left close) go_on

-- a call is out
pub runs_out : (m : Machine) (p q : Progress) (doc : ℕ) (close : Bool) → process_of q ≡ process_of p
    → RunsOn m p close (record m { stage = Running doc close; runner = Some q })
runs_out m p q doc close same = record {
  back = λ rest c a. (a.0, record { closes = a.1.closes; stays = a.1.stays }, a.2 ∙ ap (λ (x : Process). run x (behind m close a.0)) same);
  on = λ rest c a. (a.0, record { closes = a.1.closes; stays = a.1.stays }, a.2 ∙ ap (λ (x : Process). run x (behind m close a.0)) (sym same));
}

-- the text is there
pub runs_done : (m n : Machine) (p : Progress) (text : List ℕ) (close : Bool) → process_of p ≡ says text → IsAnswering m Xml text close n → RunsOn m p close n
runs_done m n p text close done is = record {
  back = λ rest c future.
      let a : IsAnswered m Xml text close rest c = answered_future m n Xml text close rest c is future in
      (a.0, a.1, a.2 ∙ ap (λ (x : Process). run x (behind m close a.0)) (sym done));
  on = λ rest c a. future_answered m n Xml text close rest c is (a.0, a.1, a.2 ∙ ap (λ (x : Process). run x (behind m close a.0)) done);
}

-- ---- a file

pub file_leads : (m n : Machine) (doc : ℕ) (call : Call) (submitted : Submitted) (close : Bool) → m.stage ≡ Filing doc close → m.call ≡ Some call → IsFiled m submitted close n
    → LeadsBy m (made doc call submitted) n
file_leads m n doc call submitted close at out filed rest d future =
    let a : IsAnswered m Binary filed.bytes close rest d = answered_future m n Binary filed.bytes close rest d filed.answering future in
    let c : Course = makes doc call (λ s. file_answered s (is_last m.left close) a.0) in (
      c,
      subst (λ (st : Stage). FutureAt st m rest c) (sym at) (subst (λ (x : Option Call). FileServes m doc close x (m.input ++ rest) c) (sym out) (a.0, a.1, refl)),
      (refl, refl, a.2 ∙ sym (ap (λ (s : Submitted). file_answered s (is_last m.left close) a.0) filed.is_file)),
    )

pub file_tracks : (m n : Machine) (doc : ℕ) (call : Call) (submitted : Submitted) (close : Bool) → m.stage ≡ Filing doc close → m.call ≡ Some call → IsFiled m submitted close n
    → TracksBy m (made doc call submitted) n
file_tracks m n doc call submitted close at out filed rest c future =
    let a = subst (λ (x : Option Call). FileServes m doc close x (m.input ++ rest) c) out (subst (λ (st : Stage). FutureAt st m rest c) at future) in
    let d : Course = file_answered submitted (is_last m.left close) a.0 in (
      d,
      future_answered m n Binary filed.bytes close rest d filed.answering (a.0, a.1, ap (λ (s : Submitted). file_answered s (is_last m.left close) a.0) filed.is_file),
      subst (λ (x : Course). Passes x (made doc call submitted) d) (sym a.2) (refl, refl, refl),
    )

-- ---- whichever document and call are named

same_doc : (doc d : ℕ) → ◌≡◌ {A = Want} (Submit doc) (Submit d) → doc ≡ d
same_doc doc d e = cc

pub file_leads_any : (m n : Machine) (d : ℕ) (submitted : Submitted) (close : Bool) → m.stage ≡ Filing d close → IsFiled m submitted close n
    → (doc : ℕ) (call : Call) → WantsIs m.stage (Submit doc) → IsCallOf m call → LeadsBy m (made doc call submitted) n
file_leads_any m n d submitted close at filed doc call wants out =
    subst (λ (k : ℕ). LeadsBy m (made k call submitted) n) (sym (same_doc doc d (subst (λ (st : Stage). WantsIs st (Submit doc)) at wants)))
    (file_leads m n d call submitted close at (subst (λ (st : Stage). CallAt st m call) at out) filed)

pub file_tracks_any : (m n : Machine) (d : ℕ) (submitted : Submitted) (close : Bool) → m.stage ≡ Filing d close → IsFiled m submitted close n
    → (doc : ℕ) (call : Call) → WantsIs m.stage (Submit doc) → IsCallOf m call → TracksBy m (made doc call submitted) n
file_tracks_any m n d submitted close at filed doc call wants out =
    subst (λ (k : ℕ). TracksBy m (made k call submitted) n) (sym (same_doc doc d (subst (λ (st : Stage). WantsIs st (Submit doc)) at wants)))
    (file_tracks m n d call submitted close at (subst (λ (st : Stage). CallAt st m call) at out) filed)

-- a session that differs in its runner alone
pub runs_like : (m k n : Machine) (q : Progress) (close : Bool) → k.names ≡ m.names → k.left ≡ m.left → k.input ≡ m.input → RunsOn k q close n → RunsOn m q close n
runs_like m k n q close names left input on = record {
  back = λ rest c future. rw (← names, ← left, ← input) (on.back rest c future);
  on = λ rest c a. on.on rest c (rw (names, left, input) a);
}

pub run_leads_any : (m n : Machine) (p q : Progress) (d : ℕ) (submitted : Submitted) (close : Bool) → m.stage ≡ Running d close → m.runner ≡ Some p
    → process_of q ≡ after (process_of p) submitted → RunsOn m q close n
    → (doc : ℕ) (call : Call) → WantsIs m.stage (Submit doc) → IsCallOf m call → LeadsBy m (made doc call submitted) n
run_leads_any m n p q d submitted close at runner goes on doc call wants out =
    let o = subst (λ (r : Option Progress). IsOutOf r d call) runner (subst (λ (st : Stage). CallAt st m call) at out) in
    subst (λ (k : ℕ). LeadsBy m (made k call submitted) n) (sym (same_doc doc d (subst (λ (st : Stage). WantsIs st (Submit doc)) at wants)))
    (run_leads m n p q d call submitted close at runner o.1 goes on)

pub run_tracks_any : (m n : Machine) (p q : Progress) (d : ℕ) (submitted : Submitted) (close : Bool) → m.stage ≡ Running d close → m.runner ≡ Some p
    → process_of q ≡ after (process_of p) submitted → RunsOn m q close n
    → (doc : ℕ) (call : Call) → WantsIs m.stage (Submit doc) → IsCallOf m call → TracksBy m (made doc call submitted) n
run_tracks_any m n p q d submitted close at runner goes on doc call wants out =
    let o = subst (λ (r : Option Progress). IsOutOf r d call) runner (subst (λ (st : Stage). CallAt st m call) at out) in
    subst (λ (k : ℕ). TracksBy m (made k call submitted) n) (sym (same_doc doc d (subst (λ (st : Stage). WantsIs st (Submit doc)) at wants)))
    (run_tracks m n p q d call submitted close at runner o.1 goes on)
