use Rattle.std.proofs.Common.{arith}
use Rattle.compact_values.specs.declared.ids.ExGuid.TheVariants.{Null}
use Rattle.file_nodes.proofs.TableSteps.{total_step}
use Rattle.file_nodes.proofs.walks.total_by.Goals as goal

pub loop-i-preserved : goal.loop-i-preserved
loop-i-preserved c = (
  total_step _ _ _ c.loop-i.i c.loop-i.sum c.in_ok-size.size Null _ c.requires c.loop-i-test.true c.in_ok-size.ensures c.loop-i.invariant.0,
  omega arith,
)
