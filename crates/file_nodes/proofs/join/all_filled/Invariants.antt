use Rattle.std.proofs.Common.{◌≡◌, ◌++◌, drop, map}
use Rattle.file_nodes.specs.Links.{filled}
use Rattle.file_nodes.proofs.join.all_filled.Given as goal

abbrev pub invariant-loop-link : goal.invariant-loop-link
invariant-loop-link l = l.children ++ map (filled l.table) (drop l.link-index l.links) ≡ map (filled l.table) l.links
