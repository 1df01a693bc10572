use Rattle.std.proofs.Common.{◌<◌, ◌∙◌, length, sym, arith}
use Rattle.envelope_write.proofs.Appending.{subs_more, subs_end}
use Rattle.envelope_write.proofs.write.append_subs.Goals as goal

pub loop-i-preserved : goal.loop-i-preserved
loop-i-preserved c =
    let l = c.loop-i in
    let less : l.i < length c.args.outcomes.now = omega arith in
    rw c.in_ok-append_sub.ensures (sym (subs_more l.out.items c.args.subs.now c.args.outcomes.now l.i c.index-subs-i.result c.index-outcomes-i.result (omega arith) less c.index-subs-i.is c.index-outcomes-i.is) ∙ l.invariant)

pub returns : goal.returns
returns c = sym (subs_end c.loop-i.out.items c.args.subs.now c.args.outcomes.now c.loop-i.i (omega arith)) ∙ c.loop-i.invariant
