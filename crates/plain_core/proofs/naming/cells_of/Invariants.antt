use Rattle.std.proofs.Common.{◌≡◌, drop, fold}
use Rattle.doc_model.specs.rules.Reached.{same_cells}
use Rattle.compact_values.specs.IdPlaces.{with_new}
use Rattle.doc_model.specs.rules.Finding.{firsts}
use Rattle.plain_core.proofs.naming.cells_of.Given as goal

-- what is there, and what is still to be done
abbrev pub invariant-loop-c : goal.invariant-loop-c
invariant-loop-c l = fold (with_new same_cells) l.once (drop l.c-index l.cells) ≡ firsts same_cells l.cells
