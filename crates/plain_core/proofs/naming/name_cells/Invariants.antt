use Rattle.std.proofs.Common.{◌≡◌, ◌++◌, drop, map}
use Rattle.doc_model.specs.rules.Reached.{cell_name}
use Rattle.plain_core.specs.Cataloging.{listed}
use Rattle.plain_core.proofs.naming.name_cells.Given as goal

-- what is there, and what is still to be done
abbrev pub invariant-loop-c : goal.invariant-loop-c
invariant-loop-c l = l.all ++ map (cell_name (listed l.catalog)) (drop l.c-index l.cells) ≡ l.fn.all ++ map (cell_name (listed l.catalog)) l.cells
