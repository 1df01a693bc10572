use Rattle.std.proofs.Common.{refl, arith}
use Rattle.doc_model.specs.rules.Pulls.{knows}
use Rattle.knowledge_set.proofs.Joins.{more-maximal, one-more}
use Rattle.knowledge_set.proofs.Placing.{filled-at}
use Rattle.knowledge_set.proofs.joining.join_few.Goals as goal

-- one range more
pub loop-range-preserved : goal.loop-range-preserved
loop-range-preserved c =
    let few = c.args.few.now in
    let some = filled-at few c.loop-range.range-index _ c.requires.few c.loop-range-test.true in
    record {
      maximal = more-maximal c.loop-range.ranges.items c.join.new.ranges.items _ c.in-Ok.ensures.ok some c.loop-range.invariant.maximal;
      has = λ g k.
          one-more (knows g c.args.ranges.now.items k) c.loop-range.ranges.items c.join.new.ranges.items few c.loop-range.range-index _ _ g k
          c.in-Ok.ensures.ok c.loop-range.invariant.maximal some c.loop-range-test.true refl (c.loop-range.invariant.has g k);
      room = grind (arith, c.join.ensures.len, c.join.ensures.capacity, c.loop-range.invariant.room);
    }
