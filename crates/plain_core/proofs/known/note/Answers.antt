use Rattle.std.proofs.Common.{arith}
use Rattle.plain_core.proofs.CoveredSerials.{notes}
use Rattle.plain_core.proofs.known.note.Goals as goal

pub returns-then-ends-place-clause-covers : goal.returns-then-ends-place-clause-covers
returns-then-ends-place-clause-covers c =
    λ k some few. notes c.args.ends.now c.args.range.now.from c.args.range.now.to c.saturating_sub-place.result k c.saturating_sub-place.ensures (omega arith) (omega arith) some
