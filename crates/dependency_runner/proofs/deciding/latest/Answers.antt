use Rattle.dependency_runner.proofs.Latest.{looked_at}
use Rattle.dependency_runner.proofs.deciding.latest.Goals.{then-same, else-same}
use Rattle.dependency_runner.proofs.deciding.latest.Goals as goal

pub loop-before-preserved : goal.loop-before-preserved
loop-before-preserved c =
    let turn = looked_at c.args.token.now c.args.earlier.now c.loop-before.before-index c.before-item.result c.same.result c.loop-before.found c.if-same.found c.loop-before-test.true c.before-item.is c.same.ensures in
    elim c.if-same.branch [
      | then-same w ↦ turn (rw w.if-same.true w.found-is) c.loop-before.invariant
      | else-same w ↦ turn (rw w.if-same.false w.found-is) c.loop-before.invariant
    ]
