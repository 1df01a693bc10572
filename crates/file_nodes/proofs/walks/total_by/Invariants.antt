use Rattle.std.proofs.Common.{◌≡◌, ◌*◌, ◌^◌, ◌≤◌, drop, Ok}
use Rattle.file_nodes.specs.FileWalks.{together}
use Rattle.file_nodes.specs.Links.{total_by}
use Rattle.file_nodes.proofs.walks.total_by.Given as goal

abbrev pub invariant-loop-i : goal.invariant-loop-i
invariant-loop-i l = (together (Ok l.sum) (total_by l.table (drop l.i l.ids) (drop l.i l.places)) ≡ total_by l.table l.ids l.places) × (l.sum ≤ l.i * 2 ^ 64)
