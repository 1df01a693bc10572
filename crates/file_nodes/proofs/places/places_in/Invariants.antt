use Rattle.std.proofs.Common.{◌≡◌, ◌++◌, drop, map}
use Rattle.file_nodes.specs.Index.{place_in}
use Rattle.file_nodes.proofs.places.places_in.Given as goal

abbrev pub invariant-loop-id : goal.invariant-loop-id
invariant-loop-id l = l.places ++ map (place_in l.index l.absent) (drop l.id-index l.ids) ≡ map (place_in l.index l.absent) l.ids
