use Rattle.std.proofs.Common.{ℕ, ◌-◌, List, [], ◌++◌, drop, ◌∙◌, refl, sym, ap, subst}
use Rattle.session_loop.specs.Sessions.{Machine, Serves, Leads}
use Rattle.session_loop.specs.declared.stage.Stage.TheVariants.{Heading, Over, Writing}
use Rattle.session_loop.proofs.Telling.{end_leads, next_leads}
use Rattle.std.proofs.Common.{◌≤◌, length}
use Rattle.session_loop.proofs.Rooming.{end_falls, next_falls}
use Rattle.session_loop.specs.Rooms.{head_steps, HasRoom}
use Rattle.session_loop.proofs.session.Session.take_written.Goals as goal

pub returns-in-Some-clause-leads : goal.returns-in-Some-clause-leads
returns-in-Some-clause-leads c =
    let m = c.args.self.now in
    let s = c.self.inside in
    let n : Machine = record { names = s.names; left = s.left; stage = Over c.in-Some.end; input = drop s.from s.input; body = s.body; user = s.user; runner = s.runner; call = s.call; output = s.output } in
    end_leads m n c.in-Some.end (sym (ap (λ (x : Machine). x.stage) c.self.view_is) ∙ c.in-Writing.is ∙ ap Writing c.in-Some.is) refl

pub returns-in_ok-read_request-in-None-clause-leads : goal.returns-in_ok-read_request-in-None-clause-leads
returns-in_ok-read_request-in-None-clause-leads c =
    let m = c.args.self.now in
    let s = c.self.inside in
    let k : Machine = record { names = s.names; left = c.saturating_sub-self-inside.result; stage = Heading; input = drop s.from s.input; body = s.body; user = s.user; runner = s.runner; call = s.call; output = s.output } in
    let leads : Leads k [] c.read_request.new.self = c.in_ok-read_request-in-None.ensures.leads in
    next_leads m c.read_request.new.self (sym (ap (λ (x : Machine). x.stage) c.self.view_is) ∙ c.in-Writing.is ∙ ap Writing c.in-None.is)
    (λ rest course future.
    subst (λ (l : List ℕ). Serves m.names (m.left - 1) (l ++ rest) course) (ap (λ (x : Machine). x.input) c.self.view_is)
    (subst (λ (i : ℕ). Serves m.names i (k.input ++ rest) course) (c.saturating_sub-self-inside.ensures ∙ ap (λ (x : Machine). x.left - 1) c.self.view_is)
    (subst (λ (names : List (List ℕ)). Serves names k.left (k.input ++ rest) course) (ap (λ (x : Machine). x.names) c.self.view_is) (leads rest course future))))

pub returns-in-Some-clause-falls : goal.returns-in-Some-clause-falls
returns-in-Some-clause-falls c =
    let m = c.args.self.now in
    let s = c.self.inside in
    let n : Machine = record { names = s.names; left = s.left; stage = Over c.in-Some.end; input = drop s.from s.input; body = s.body; user = s.user; runner = s.runner; call = s.call; output = s.output } in
    end_falls m n c.in-Some.end (sym (ap (λ (x : Machine). x.stage) c.self.view_is) ∙ c.in-Writing.is ∙ ap Writing c.in-Some.is) refl

pub returns-in_ok-read_request-in-None-clause-falls : goal.returns-in_ok-read_request-in-None-clause-falls
returns-in_ok-read_request-in-None-clause-falls c =
    let m = c.args.self.now in
    let s = c.self.inside in
    next_falls m c.read_request.new.self (drop s.from s.input) (sym (ap (λ (x : Machine). x.stage) c.self.view_is) ∙ c.in-Writing.is ∙ ap Writing c.in-None.is)
    (subst (λ (l : ℕ). 1 ≤ l → HasRoom c.read_request.new.self (head_steps (length (drop s.from s.input)) l))
    (c.saturating_sub-self-inside.ensures ∙ ap (λ (x : Machine). x.left - 1) c.self.view_is) c.in_ok-read_request-in-None.ensures.room)
