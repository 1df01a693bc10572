use Rattle.std.proofs.Common.{◌∙◌, sym, ap}
use Rattle.http_head.specs.declared.answer.Media.TheVariants.{Xml}
use Rattle.session_loop.specs.Sessions.{Machine, IsAnswering}
use Rattle.session_loop.proofs.RunCalls.{runs_out, runs_done}
use Rattle.std.proofs.Common.{◌+◌, drop, Some, refl, arith}
use Rattle.session_loop.specs.declared.stage.Stage.TheVariants.{Running}
use Rattle.session_loop.proofs.Rooming.{running_room, answering_room, more_room}
use Rattle.std.proofs.Common.{List, ℕ, length, subst}
use Rattle.collection_run.specs.Processes.{IsServable}
use Rattle.collection_run.specs.Progress.{process_of}
use Rattle.session_loop.proofs.Safe.{answering_safe}
use Rattle.session_loop.specs.Rooms.{later}
use Rattle.session_loop.proofs.session.Session.run_on.Goals as goal

pub returns-in-Some-clause-runs : goal.returns-in-Some-clause-runs
returns-in-Some-clause-runs c =
    rw (← c.self.view_is) (runs_out _ c.args.runner c.next.new.self c.in-Some.doc c.args.close c.in_ok-doc.ensures.same)

pub returns-in_ok-answer-in-None-clause-runs : goal.returns-in_ok-answer-in-None-clause-runs
returns-in_ok-answer-in-None-clause-runs c =
    let is : IsAnswering c.args.self.now Xml c.in_ok-text-in-None.text c.args.close c.answer.new.self = rw c.as_slice.ensures at c.in_ok-answer-in-None.ensures in
    runs_done c.args.self.now c.answer.new.self c.args.runner c.in_ok-text-in-None.text c.args.close (sym c.in_ok-doc.ensures.same ∙ c.in_ok-text-in-None.ensures) is

pub returns-in-Some-clause-room : goal.returns-in-Some-clause-room
returns-in-Some-clause-room c some k few =
    let s = c.self.inside in
    let m = c.args.self.now in
    let n : Machine = record { names = s.names; left = s.left; stage = Running c.in-Some.doc c.args.close; input = drop s.from s.input; body = s.body; user = s.user; runner = Some c.next.new.self; call = s.call; output = s.output } in
    running_room m n c.in-Some.doc c.args.close c.args.runner c.next.new.self k refl (ap (λ (x : Machine). x.left) c.self.view_is) refl c.in_ok-doc.ensures.same some few

pub returns-in_ok-answer-in-None-clause-room : goal.returns-in_ok-answer-in-None-clause-room
returns-in_ok-answer-in-None-clause-room c some k few =
    let m = c.args.self.now in
    let is : IsAnswering m Xml c.in_ok-text-in-None.text c.args.close c.answer.new.self = rw c.as_slice.ensures at c.in_ok-answer-in-None.ensures in
    more_room c.answer.new.self (1 + later m.left) (k + 2 + later m.left) (omega arith) (answering_room m c.answer.new.self Xml c.in_ok-text-in-None.text c.args.close is some)

pub returns-in-Some-clause-safe : goal.returns-in-Some-clause-safe
returns-in-Some-clause-safe c safe =
    let s = c.self.inside in
    subst (λ (names : List (List ℕ)). IsServable (length names) (process_of c.next.new.self)) (sym (ap (λ (x : Machine). x.names) c.self.view_is))
    (subst (IsServable (length c.args.self.now.names)) (sym c.in_ok-doc.ensures.same) safe)

pub returns-in_ok-answer-in-None-clause-safe : goal.returns-in_ok-answer-in-None-clause-safe
returns-in_ok-answer-in-None-clause-safe c safe =
    let m = c.args.self.now in
    let is : IsAnswering m Xml c.in_ok-text-in-None.text c.args.close c.answer.new.self = rw c.as_slice.ensures at c.in_ok-answer-in-None.ensures in
    answering_safe m c.answer.new.self Xml c.in_ok-text-in-None.text c.args.close is
