use Rattle.std.proofs.Common.{◌∙◌, sym, ap}
use Rattle.session_loop.specs.Sessions.{Machine, RunsOn}
use Rattle.session_loop.proofs.RunCalls.{runs_like, run_leads_any, run_tracks_any, file_leads_any, file_tracks_any}
use Rattle.std.proofs.Common.{◌≤◌, ◌+◌, ℕ, Option, subst}
use Rattle.http_head.specs.declared.answer.Media.TheVariants.{Binary}
use Rattle.collection_run.specs.Progress.{process_of}
use Rattle.collection_run.specs.declared.progress.Progress.{Progress}
use Rattle.session_loop.specs.Sessions.{IsOutOf, CallAt}
use Rattle.session_loop.specs.declared.stage.Stage.{Stage}
use Rattle.session_loop.proofs.Rooming.{running_falls, filing_falls, answering_room}
use Rattle.std.proofs.Common.{List, length}
use Rattle.collection_run.specs.Processes.{IsServable, AtMost}
use Rattle.session_loop.specs.Safety.{IsSafe}
use Rattle.session_loop.proofs.Safe.{running_safe, answering_safe}
use Rattle.session_loop.specs.Rooms.{later, HasRoom}
use Rattle.session_loop.proofs.session.Session.take_submitted.Goals as goal

pub returns-in_ok-run_on-in-Some-clause-leads : goal.returns-in_ok-run_on-in-Some-clause-leads
returns-in_ok-run_on-in-Some-clause-leads c =
    let m = c.args.self.now in
    let on : RunsOn m c.give.new.self c.in-Running.close c.run_on.new.self = runs_like m _ c.run_on.new.self c.give.new.self c.in-Running.close
    (ap (λ (x : Machine). x.names) c.self.view_is) (ap (λ (x : Machine). x.left) c.self.view_is) (ap (λ (x : Machine). x.input) c.self.view_is) c.in_ok-run_on-in-Some.ensures.runs in
    run_leads_any m c.run_on.new.self c.in-Some.runner c.give.new.self c.in-Running.doc c.args.submitted c.in-Running.close
    (sym (ap (λ (x : Machine). x.stage) c.self.view_is) ∙ c.in-Running.is) (sym (ap (λ (x : Machine). x.runner) c.self.view_is) ∙ sym c.in-Some.ensures.value)
    c.in_ok-give-in-Some.ensures.goes_on on

pub returns-in_ok-take_file-in-Filing-clause-leads : goal.returns-in_ok-take_file-in-Filing-clause-leads
returns-in_ok-take_file-in-Filing-clause-leads c =
    file_leads_any c.args.self.now c.take_file.new.self c.in-Filing.doc c.args.submitted c.in-Filing.close
    (sym (ap (λ (x : Machine). x.stage) c.self.view_is) ∙ c.in-Filing.is) c.in_ok-take_file-in-Filing.ensures

pub returns-in_ok-run_on-in-Some-clause-tracks : goal.returns-in_ok-run_on-in-Some-clause-tracks
returns-in_ok-run_on-in-Some-clause-tracks c =
    let m = c.args.self.now in
    let on : RunsOn m c.give.new.self c.in-Running.close c.run_on.new.self = runs_like m _ c.run_on.new.self c.give.new.self c.in-Running.close
    (ap (λ (x : Machine). x.names) c.self.view_is) (ap (λ (x : Machine). x.left) c.self.view_is) (ap (λ (x : Machine). x.input) c.self.view_is) c.in_ok-run_on-in-Some.ensures.runs in
    run_tracks_any m c.run_on.new.self c.in-Some.runner c.give.new.self c.in-Running.doc c.args.submitted c.in-Running.close
    (sym (ap (λ (x : Machine). x.stage) c.self.view_is) ∙ c.in-Running.is) (sym (ap (λ (x : Machine). x.runner) c.self.view_is) ∙ sym c.in-Some.ensures.value)
    c.in_ok-give-in-Some.ensures.goes_on on

pub returns-in_ok-take_file-in-Filing-clause-tracks : goal.returns-in_ok-take_file-in-Filing-clause-tracks
returns-in_ok-take_file-in-Filing-clause-tracks c =
    file_tracks_any c.args.self.now c.take_file.new.self c.in-Filing.doc c.args.submitted c.in-Filing.close
    (sym (ap (λ (x : Machine). x.stage) c.self.view_is) ∙ c.in-Filing.is) c.in_ok-take_file-in-Filing.ensures

pub returns-in_ok-run_on-in-Some-clause-falls : goal.returns-in_ok-run_on-in-Some-clause-falls
returns-in_ok-run_on-in-Some-clause-falls c =
    let m = c.args.self.now in
    let at = sym (ap (λ (x : Machine). x.stage) c.self.view_is) ∙ c.in-Running.is in
    let runner_is = sym (ap (λ (x : Machine). x.runner) c.self.view_is) ∙ sym c.in-Some.ensures.value in
    let out = subst (λ (r : Option Progress). IsOutOf r c.in-Running.doc c.requires.0) runner_is (subst (λ (st : Stage). CallAt st m c.requires.0) at c.requires.1) in
    running_falls m c.run_on.new.self c.in-Some.runner c.give.new.self c.in-Running.doc c.in-Running.close c.requires.0 c.args.submitted at runner_is out.1
    c.in_ok-give-in-Some.ensures.goes_on
    (subst (λ (l : ℕ). 1 ≤ l → (k : ℕ) → AtMost k (process_of c.give.new.self) → HasRoom c.run_on.new.self (k + 2 + later l)) (ap (λ (x : Machine). x.left) c.self.view_is)
    c.in_ok-run_on-in-Some.ensures.room)

pub returns-in_ok-take_file-in-Filing-clause-falls : goal.returns-in_ok-take_file-in-Filing-clause-falls
returns-in_ok-take_file-in-Filing-clause-falls c =
    let m = c.args.self.now in
    let f = c.in_ok-take_file-in-Filing.ensures in
    filing_falls m c.take_file.new.self c.in-Filing.doc c.in-Filing.close (sym (ap (λ (x : Machine). x.stage) c.self.view_is) ∙ c.in-Filing.is)
    (answering_room m c.take_file.new.self Binary f.bytes c.in-Filing.close f.answering)

pub returns-in_ok-run_on-in-Some-clause-safe : goal.returns-in_ok-run_on-in-Some-clause-safe
returns-in_ok-run_on-in-Some-clause-safe c safe =
    let m = c.args.self.now in
    let at = sym (ap (λ (x : Machine). x.stage) c.self.view_is) ∙ c.in-Running.is in
    let runner_is = sym (ap (λ (x : Machine). x.runner) c.self.view_is) ∙ sym c.in-Some.ensures.value in
    let out = subst (λ (r : Option Progress). IsOutOf r c.in-Running.doc c.requires.0) runner_is (subst (λ (st : Stage). CallAt st m c.requires.0) at c.requires.1) in
    running_safe m c.run_on.new.self c.in-Some.runner c.give.new.self c.in-Running.doc c.in-Running.close c.requires.0 c.args.submitted at runner_is out.1 c.requires.2
    c.in_ok-give-in-Some.ensures.goes_on
    (subst (λ (names : List (List ℕ)). IsServable (length names) (process_of c.give.new.self) → IsSafe c.run_on.new.self) (ap (λ (x : Machine). x.names) c.self.view_is)
    c.in_ok-run_on-in-Some.ensures.safe) safe

pub returns-in_ok-take_file-in-Filing-clause-safe : goal.returns-in_ok-take_file-in-Filing-clause-safe
returns-in_ok-take_file-in-Filing-clause-safe c safe =
    let f = c.in_ok-take_file-in-Filing.ensures in
    answering_safe c.args.self.now c.take_file.new.self Binary f.bytes c.in-Filing.close f.answering
