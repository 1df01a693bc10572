use Rattle.std.proofs.Common.{◌≤◌, sym, subst}
use Rattle.doc_host.specs.Passes.{turns_at}
use Rattle.doc_host.specs.Views.{views}
use Rattle.host_tests.proofs.Halves.{half_each}
use Rattle.host_tests.proofs.side_by_side.submit_side_by_side.Goals as goal

pub submit_in_two_threads-first-requires-clause-turns : goal.submit_in_two_threads-first-requires-clause-turns
submit_in_two_threads-first-requires-clause-turns g c κs within =
    let h = half_each (views c.args.pass) c.args.doc c.requires.turns in (
      subst (λ vs. 1 ≤ turns_at vs c.args.doc) (sym c.in_ok-second.ensures.kept) h.0,
      subst (λ vs. 1 ≤ turns_at vs c.args.doc) (sym c.in_ok-second.ensures.new.1) h.1,
    )
