use Rattle.std.proofs.Common.{◌∙◌, arith}
use Rattle.envelope_write.proofs.Escaping.{written_plain, written_reference, written_all}
use Rattle.envelope_write.proofs.xml.append_escaped.Goals as goal
use Rattle.envelope_write.proofs.xml.append_escaped.Goals.{in-Some+in_ok-extend_from_slice+in_ok-extend_from_slice-2, in_default}

pub loop-i-preserved : goal.loop-i-preserved
loop-i-preserved c =
    let l = c.loop-i in
    let value = c.args.value.now in
    elim c.match-reference.branch [
      | in-Some+in_ok-extend_from_slice+in_ok-extend_from_slice-2 w ↦ record {
        within = omega (arith, w.from-is);
        so_far = rw (w.from-is, w.out-is, w.in_ok-extend_from_slice-2.ensures.items, w.in_ok-extend_from_slice.ensures.items)
            (written_reference c.args.out.now.items l.out.items value w.in-Some.text.now l.from l.i (omega arith) w.in-Some.ensures l.invariant.so_far);
      }
      | in_default w ↦ record {
        within = omega (arith, w.from-is);
        so_far = rw (w.from-is, w.out-is)
            (written_plain c.args.out.now.items l.out.items value l.from l.i l.invariant.within (omega arith) w.in_default.ensures l.invariant.so_far);
      }
    ]

pub returns : goal.returns
returns c =
    let l = c.loop-i in
    c.in_ok-extend_from_slice-3.ensures.items ∙ written_all c.args.out.now.items l.out.items c.args.value.now l.from l.i (omega arith) (omega arith) l.invariant.so_far
