use Rattle.std.proofs.Common.{◌≡◌, ◌-◌, ◌≤◌, map}
use Rattle.file_nodes.specs.FileWalks.{walk}
use Rattle.file_nodes.proofs.walks.walks_below.Given as goal

abbrev pub invariant-loop-height : goal.invariant-loop-height
invariant-loop-height l = (l.height ≤ 7) × (l.walks ≡ map (walk l.objects l.height) l.objects)

abbrev pub decreases-loop-height : goal.decreases-loop-height
decreases-loop-height l = 7 - l.height
