use Rattle.std.proofs.Common.{drop}
use Rattle.host_edge.specs.MemDisks.{events}
use Rattle.host_edge.proofs.CrashImages.{Replayed}
use Rattle.host_edge.proofs.crash_image.image_after.Given as goal

abbrev pub invariant-loop-call : goal.invariant-loop-call
invariant-loop-call l = Replayed (events l.calls l.log) (drop l.call-index l.calls) l.bytes l.seen.items l.image.items
