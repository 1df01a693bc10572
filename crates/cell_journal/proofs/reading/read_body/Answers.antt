use Rattle.std.proofs.Common.{◌≡◌, ◌∙◌, drop, length, arith}
use Rattle.std.proofs.lemmas.Grind.{common_steps}
use Rattle.host_edge.proofs.Untouching.{untouched_on}
use Rattle.cell_journal.proofs.Layouts.{chunk_read}
use Rattle.cell_journal.proofs.reading.read_body.Goals as goal

pub loop-done-preserved : goal.loop-done-preserved
loop-done-preserved g c =
    let inv = c.loop-done.invariant in
    record {
      within = grind (arith, inv.within);
      same = untouched_on g.D.Disk.seen g.D.Disk.may_leave g.D.Disk.moment g.D.Disk.left_since c.args.disk.now c.loop-done.disk c.read_at.new.self inv.same c.read_at.ensures.seen c.read_at.ensures.crash c.read_at.ensures.time;
      bytes = λ f told fits.
          let long : length c.read_at.new.into ≡ c.min-want.result = grind (arith, common_steps) in
          chunk_read (g.D.Disk.seen c.loop-done.disk) c.loop-done.into c.extend_from_slice.new.self f c.read_at.new.into (drop c.min-want.result c.loop-done.chunk)
          c.args.place c.loop-done.done c.min-want.result c.in_ok-got.got (inv.same.reads ∙ told) (inv.bytes f told fits) c.in_ok-extend_from_slice.ensures.ok long
          c.if-got-want.false c.in_ok-got.ensures.bound.0 c.in_ok-got.ensures.bytes;
      size = grind (arith, common_steps, inv.size);
      faults = grind (arith, inv.faults);
    }
