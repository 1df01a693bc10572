use Rattle.std.proofs.Common.{◌≡◌, ◌++◌, drop, map}
use Rattle.file_nodes.specs.Links.{link_of}
use Rattle.file_nodes.proofs.links.links_of.Given as goal

abbrev pub invariant-loop-object : goal.invariant-loop-object
invariant-loop-object l = l.links ++ map (link_of l.objects) (drop l.object-index l.objects) ≡ map (link_of l.objects) l.objects
