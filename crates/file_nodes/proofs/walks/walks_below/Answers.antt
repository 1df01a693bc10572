use Rattle.std.proofs.Common.{ℕ, List, Result, map, ap, ◌∙◌, arith}
use Rattle.file_nodes.specs.Links.{link_of, walk_by}
use Rattle.file_nodes.specs.declared.fault.NodeFault.{NodeFault}
use Rattle.file_nodes.proofs.WalkTables.{table_next}
use Rattle.file_nodes.proofs.walks.walks_below.Goals as goal

pub loop-height-preserved : goal.loop-height-preserved
loop-height-preserved c =
    let objects = c.args.objects.now in (
      omega arith,
      table_next objects c.loop-height.walks c.loop-height.height c.loop-height.invariant.1 c.in_ok-walks-2.walks
          (c.in_ok-walks-2.ensures ∙ ap (λ (t : List (Result ℕ NodeFault)). map (λ o. walk_by t o (link_of objects o)) objects) c.as_slice.ensures),
    )
