use Rattle.std.proofs.Common.{refl, drop}
use Rattle.session_loop.specs.declared.stage.Stage.TheVariants.{Over}
use Rattle.session_loop.specs.Sessions.{Machine, EndIs}
use Rattle.session_loop.proofs.Ending.{ends_at, ends_only, rest_is}
use Rattle.session_loop.proofs.Rooming.{source_falls}
use Rattle.session_loop.proofs.session.Session.feed_end.Goals as goal

pub returns-clause-closes : goal.returns-clause-closes
returns-clause-closes c =
    let m = c.args.self.now in
    let e = c.end_of-end.result in
    let is : EndIs m.stage m.input e = rw (← c.self.view_is) (rw (c.as_slice.ensures, rest_is c.self.inside.input c.self.inside.from) at c.end_of-end.ensures.is) in
    record { end = e; stage = refl; leads = ends_at m.stage m e c.requires.settled c.requires.want is; tracks = ends_only m.stage m e c.requires.settled c.requires.want is }

pub returns-clause-falls : goal.returns-clause-falls
returns-clause-falls c =
    let m = c.args.self.now in
    let s = c.self.inside in
    let n : Machine = record { names = s.names; left = s.left; stage = Over c.end_of-end.result; input = drop s.from s.input; body = s.body; user = s.user; runner = s.runner; call = s.call; output = s.output } in
    source_falls m.stage m n c.end_of-end.result refl c.requires.want refl
