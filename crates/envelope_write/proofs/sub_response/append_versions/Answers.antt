use Rattle.std.proofs.Common.{◌+◌, ◌∙◌, sym, arith}
use Rattle.envelope_write.proofs.Appending.{versions_more, versions_end}
use Rattle.envelope_write.proofs.sub_response.append_versions.Goals as goal

pub loop-i-preserved : goal.loop-i-preserved
loop-i-preserved c =
    let l = c.loop-i in
    rw c.in_ok-append_version.ensures (sym (versions_more l.out.items c.args.commits.now l.i c.index-commits-i.result (omega arith) c.index-commits-i.is) ∙ l.invariant)

pub returns : goal.returns
returns c = sym (versions_end c.loop-i.out.items c.args.commits.now (c.loop-i.i + 1) c.loop-i.i (omega arith)) ∙ c.loop-i.invariant
