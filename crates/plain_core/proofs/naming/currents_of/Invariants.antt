use Rattle.std.proofs.Common.{◌≡◌, ◌++◌, drop, map}
use Rattle.doc_model.specs.rules.Reached.{current_of}
use Rattle.plain_core.specs.Cataloging.{listed}
use Rattle.plain_core.proofs.naming.currents_of.Given as goal

-- what is there, and what is still to be done
abbrev pub invariant-loop-c : goal.invariant-loop-c
invariant-loop-c l = l.ids ++ map (current_of (listed l.catalog)) (drop l.c-index l.cells) ≡ map (current_of (listed l.catalog)) l.cells
