use Rattle.std.proofs.Common.{◌≡◌, ℕ, List, All, length, map}
use Rattle.doc_model.specs.rules.Sound.{Sound}
use Rattle.session_loop.specs.Courses.{Event}
use Rattle.session_loop.specs.Driving.{Passed, Went}
use Rattle.session_loop.specs.Rooms.{HasRoom}
use Rattle.session_loop.specs.Safety.{IsSafe}
use Rattle.session_loop.specs.Sessions.{IsSettled}
use Rattle.session_loop.proofs.driving.serve.Given as goal

abbrev pub invariant-going : goal.invariant-going
invariant-going g l = record {
  settled : IsSettled l.session;
  safe : IsSafe l.session;
  room : HasRoom l.session l.room;
  docs : length l.session.names ≡ length l.docs;
  sound : All (λ d. Sound (g.C.Core.doc d.core)) l.docs;
  passed : (bytes : List ℕ) × (events : List Event)
      × Passed (record { left = g.S.Source.left l.initial.source; read_faults = g.S.Source.faults l.initial.source; held = g.K.Sink.held l.initial.out; write_faults = g.K.Sink.faults l.initial.out; told = g.T.Clock.told l.initial.clock; docs = map (λ d. record { doc = g.C.Core.doc d.core; front = d.front }) l.initial.docs })
      (record { left = g.S.Source.left l.source; read_faults = g.S.Source.faults l.source; held = g.K.Sink.held l.out; write_faults = g.K.Sink.faults l.out; told = g.T.Clock.told l.clock; docs = map (λ d. record { doc = g.C.Core.doc d.core; front = d.front }) l.docs }) bytes events
      × Went l.initial.session bytes events l.session;
}

abbrev pub decreases-going : goal.decreases-going
decreases-going g l = l.room
