use Rattle.std.proofs.Common.{◌≡◌, ◌++◌, drop, map}
use Rattle.file_nodes.specs.FileWalks.{walk}
use Rattle.file_nodes.proofs.walks.no_walks.Given as goal

abbrev pub invariant-loop-object : goal.invariant-loop-object
invariant-loop-object l = l.walks ++ map (walk l.objects 0) (drop l._object-index l.objects) ≡ map (walk l.objects 0) l.objects
