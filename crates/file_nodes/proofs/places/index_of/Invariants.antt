use Rattle.std.proofs.Common.{◌≡◌, ◌+◌, ◌≤◌, drop, length}
use Rattle.compact_values.specs.declared.ids.ExGuid.{ExGuid}
use Rattle.file_nodes.specs.Index.{place_in}
use Rattle.file_nodes.specs.Links.{place_of}
use Rattle.file_nodes.proofs.places.index_of.Given as goal

abbrev pub invariant-loop-left : goal.invariant-loop-left
invariant-loop-left l = (l.left ≤ length l.objects) × ((id : ExGuid) → place_in l.index (length l.objects) id ≡ l.left + place_of (drop l.left l.objects) id)

abbrev pub decreases-loop-left : goal.decreases-loop-left
decreases-loop-left l = l.left
