use Rattle.std.proofs.Common.{ℕ, List, [], ◌∷◌, Option, sym, subst, ◌∙◌}
use Rattle.std.specs.Io.KnownBytes.{Appends}
use Rattle.session_loop.specs.Courses.{wrote}
use Rattle.session_loop.proofs.Joining.{went_by}
use Rattle.session_loop.proofs.Passing.{written_passed, written_wanting, sink_failed}
use Rattle.session_loop.proofs.driving.write_output.Goals as goal

pub returns-in-Ok-wrote-clause-turned : goal.returns-in-Ok-wrote-clause-turned
returns-in-Ok-wrote-clause-turned g c = λ v held faults.
    let m = c.args.session.now in (
      [],
      wrote m.output ∷ [],
      written_passed v (g.K.Sink.held c.write_all.new.out) (g.K.Sink.faults c.write_all.new.out) m.output
          (subst (λ (l : Option (List ℕ)). Appends l (g.K.Sink.held c.write_all.new.out) m.output) (sym held)
          (subst (Appends (g.K.Sink.held c.args.out.now) (g.K.Sink.held c.write_all.new.out)) c.output.ensures c.in-Ok.ensures.all)) (c.in-Ok.ensures.cause.kept ∙ sym faults),
      went_by m c.wrote.new.self (wrote m.output) c.in-Ok-wrote.ensures.leads c.in-Ok-wrote.ensures.tracks,
    )

pub returns-in-Err-wrote-clause-turned : goal.returns-in-Err-wrote-clause-turned
returns-in-Err-wrote-clause-turned g c = λ v held faults.
    let m = c.args.session.now in
    written_wanting v (record v { held = g.K.Sink.held c.write_all.new.out; write_faults = g.K.Sink.faults c.write_all.new.out }) m
    (written_passed v (g.K.Sink.held c.write_all.new.out) (g.K.Sink.faults c.write_all.new.out) m.output
    (subst (λ (l : Option (List ℕ)). Appends l (g.K.Sink.held c.write_all.new.out) m.output) (sym held)
    (subst (Appends (g.K.Sink.held c.args.out.now) (g.K.Sink.held c.write_all.new.out)) c.output.ensures c.in-Ok.ensures.all)) (c.in-Ok.ensures.cause.kept ∙ sym faults))
    c.requires.want

pub returns-in-Err-clause-turned : goal.returns-in-Err-clause-turned
returns-in-Err-clause-turned g c = λ v held faults.
    sink_failed v (g.K.Sink.held c.args.out.now) (g.K.Sink.held c.write_all.new.out) (g.K.Sink.faults c.args.out.now) (g.K.Sink.faults c.write_all.new.out)
    c.args.session.now c.output.result.now held faults c.in-Err.ensures.front c.output.ensures c.in-Err.ensures.cause.failed c.requires.want
