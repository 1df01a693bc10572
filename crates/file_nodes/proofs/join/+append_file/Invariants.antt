use Rattle.std.proofs.Common.{◌≡◌, ◌-◌, ◌++◌, drop}
use Rattle.std.specs.List.{flat_map}
use Rattle.file_nodes.specs.Links.{file_from}
use Rattle.file_nodes.proofs.join.+append_file.Given as goal

abbrev pub invariant-loop-child : goal.invariant-loop-child
invariant-loop-child l =
    l.out ++ flat_map (file_from l.objects l.children (l.levels - 1)) (drop l.child-index l.child-items) ≡ l.fn.out ++ flat_map (file_from l.objects l.children (l.levels - 1)) l.child-items

abbrev pub decreases-append_file : goal.decreases-append_file
decreases-append_file l = l.levels
