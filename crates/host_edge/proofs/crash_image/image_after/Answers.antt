use Rattle.std.proofs.lemmas.List.{drop_more}
use Rattle.host_edge.specs.MemDisks.{events}
use Rattle.host_edge.proofs.CrashImages.{replayed_at}
use Rattle.host_edge.proofs.crash_image.image_after.Goals as goal

pub loop-call-preserved : goal.loop-call-preserved
loop-call-preserved c =
    replayed_at (events c.args.calls.now c.args.log.now) c.args.calls.now c.loop-call.call-index c.size_of-size.result _ c.loop-call.bytes.now c.loop-call.seen.items c.loop-call.image.items _ _
    c.loop-call.invariant (drop_more c.args.calls.now c.loop-call.call-index _ c.loop-call-test.true) c.size_of-size.ensures c.in_ok-replay.ensures.read c.in_ok-replay.ensures.left
