use Rattle.std.proofs.Common.{rules, ℕ, List, [], take, Option, sym, subst, ◌∙◌}
use Rattle.std.specs.Io.KnownBytes.{Consumes, IsAtEnd}
use Rattle.session_loop.proofs.Joining.{went_over}
use Rattle.session_loop.proofs.Passing.{read_passed, source_over, source_failed, bytes_wanting}
use Rattle.session_loop.proofs.driving.take_bytes.Goals as goal

pub returns-in-Ok-eq0-clause-turned : goal.returns-in-Ok-eq0-clause-turned
returns-in-Ok-eq0-clause-turned g c = λ v left faults.
    let none_left : IsAtEnd (g.S.Source.left c.read.new.self) = search rules in
    source_over v (g.S.Source.left c.args.source.now) (g.S.Source.left c.read.new.self) (g.S.Source.faults c.args.source.now) (g.S.Source.faults c.read.new.self)
    c.args.session.now c.feed_end.new.self c.end_of.result left faults
    (search rules)
    none_left c.in-Ok-eq0.ensures.cause.kept c.feed_end.ensures.closes c.end_of.ensures c.requires.settled c.requires.want

pub returns-in-Ok-feed-clause-turned : goal.returns-in-Ok-feed-clause-turned
returns-in-Ok-feed-clause-turned g c = λ v left faults.
    let piece : List ℕ = take c.in-Ok.count c.read.new.into in (
      piece,
      [],
      read_passed v (g.S.Source.left c.read.new.self) (g.S.Source.faults c.read.new.self) piece
          (subst (λ (l : Option (List ℕ)). Consumes l (g.S.Source.left c.read.new.self) piece) (sym left) c.in-Ok.ensures.bytes.0) (c.in-Ok.ensures.cause.kept ∙ sym faults),
      went_over c.args.session.now c.feed.new.self piece c.in-Ok-feed.ensures.leads c.in-Ok-feed.ensures.tracks,
    )

pub returns-in-Err-feed-clause-turned : goal.returns-in-Err-feed-clause-turned
returns-in-Err-feed-clause-turned g c = λ v left faults.
    let piece : List ℕ = take c.in-Ok.count c.read.new.into in
    bytes_wanting v (record v { left = g.S.Source.left c.read.new.self; read_faults = g.S.Source.faults c.read.new.self }) c.args.session.now piece
    (read_passed v (g.S.Source.left c.read.new.self) (g.S.Source.faults c.read.new.self) piece
    (subst (λ (l : Option (List ℕ)). Consumes l (g.S.Source.left c.read.new.self) piece) (sym left) c.in-Ok.ensures.bytes.0) (c.in-Ok.ensures.cause.kept ∙ sym faults))

pub returns-in-Err-clause-turned : goal.returns-in-Err-clause-turned
returns-in-Err-clause-turned g c = λ v left faults.
    source_failed v (g.S.Source.left c.args.source.now) (g.S.Source.left c.read.new.self) (g.S.Source.faults c.args.source.now) (g.S.Source.faults c.read.new.self)
    c.args.session.now left faults c.in-Err.ensures.bytes c.in-Err.ensures.cause.failed c.requires.settled c.requires.want
