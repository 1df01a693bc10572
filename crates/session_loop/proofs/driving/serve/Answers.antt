use Rattle.std.proofs.Common.{arith, ◌-◌, [], ◌++◌, length, ap, sym, ◌∙◌}
use Rattle.session_loop.specs.Driving.{over}
use Rattle.session_loop.proofs.Joining.{nothing_passed, passed_on, went_nowhere, went_on, drives}
use Rattle.session_loop.proofs.Rooming.{more_room}
use Rattle.session_loop.proofs.Wanting.{spent, over_future}
use Rattle.session_loop.proofs.driving.serve.Goals as goal

pub going-init : goal.going-init
going-init g c = record {
  settled = c.requires.settled;
  safe = c.requires.safe;
  room = c.requires.room;
  docs = c.requires.docs;
  sound = c.requires.sound;
  passed = ([], [], nothing_passed _, went_nowhere c.args.session.now);
}

pub returns-in-Some-clause-drives : goal.returns-in-Some-clause-drives
returns-in-Some-clause-drives g c =
    let p = c.going.invariant.passed in
    drives c.args.session.now.names c.args.session.now c.going.session c.requires.fresh p.0 p.1 p.3 _ _ _ c.in-Some.end p.2 c.in-Some.ensures.turned

pub going-preserved : goal.going-preserved
going-preserved g c =
    let goes = c.in_default.ensures.goes in
    let less = goes.3 c.going.room c.going.invariant.room in
    let p = c.going.invariant.passed in
    let t = c.in_default.ensures.turned in record {
      settled = goes.0;
      safe = goes.1;
      room = more_room c.turn.new.session less.0 (c.going.room - 1) (omega (arith, less.1)) less.2;
      docs = ap length goes.2 ∙ c.going.invariant.docs ∙ sym c.turn.ensures.docs;
      sound = c.turn.ensures.sound;
      passed = (
        p.0 ++ t.0,
        p.1 ++ t.1,
        passed_on _ _ _ p.0 t.0 p.1 t.1 p.2 t.2,
        went_on c.args.session.now c.going.session c.turn.new.session p.0 t.0 p.1 t.1 p.3 t.3,
      );
    }

pub end_of-requires : goal.end_of-requires
end_of-requires g c = spent c.going.session (more_room c.going.session c.going.room 0 c.going-test.false c.going.invariant.room)

pub returns-clause-drives : goal.returns-clause-drives
returns-clause-drives g c =
    let p = c.going.invariant.passed in
    drives c.args.session.now.names c.args.session.now c.going.session c.requires.fresh p.0 p.1 p.3 _ _ _ c.end_of.result p.2
    (over c.end_of.result (nothing_passed _) (λ rest. over_future c.going.session rest c.end_of.result c.end_of.ensures))
