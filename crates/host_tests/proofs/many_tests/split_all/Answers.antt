use Rattle.std.proofs.Common.{All, sym, subst}
use Rattle.std.proofs.lemmas.List.Elements.{All-push}
use Rattle.host_tests.specs.Hosts.{IsPassTo}
use Rattle.host_tests.proofs.many_tests.split_all.Goals as goal

pub loop-preserved : goal.loop-preserved
loop-preserved g c =
    let old = c.loop.invariant in
    let one = c.requires.1 in
    let pass : IsPassTo 1 c.args.host.now c.in-Some.pass = (c.in-Some.ensures.new, one) in (
      (c.split_off.ensures.kept, one),
      subst (All (IsPassTo 1 c.args.host.now)) (sym c.in_ok-push.ensures.items) (All-push (IsPassTo 1 c.args.host.now) c.loop.passes.items c.in-Some.pass old.1 pass),
    )
