use Rattle.std.proofs.Common.{◌≡◌, ◌++◌, drop, map}
use Rattle.file_nodes.specs.Links.{link_of, walk_by}
use Rattle.file_nodes.proofs.walks.next_walks.Given as goal

abbrev pub invariant-loop-i : goal.invariant-loop-i
invariant-loop-i l = l.walks ++ map (λ o. walk_by l.table o (link_of l.objects o)) (drop l.i l.objects) ≡ map (λ o. walk_by l.table o (link_of l.objects o)) l.objects
