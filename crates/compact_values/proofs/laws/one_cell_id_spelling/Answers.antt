use Rattle.compact_values.specs.Ids.{SpellsCellId}
use Rattle.compact_values.specs.Placed.{joined, cell_id_at}
use Rattle.compact_values.proofs.laws.one_cell_id_spelling.Goals as goal
use Rattle.compact_values.proofs.Codes.{one_spelling}
use Rattle.compact_values.proofs.CellIdCode.{cell_id_parts}

pub returns : goal.returns
returns c = one_spelling SpellsCellId (λ b. joined (cell_id_at b)) cell_id_parts.code
