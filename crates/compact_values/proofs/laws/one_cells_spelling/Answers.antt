use Rattle.compact_values.specs.Items.{SpellsCells}
use Rattle.compact_values.specs.Placed.{joined, cells_at}
use Rattle.compact_values.proofs.laws.one_cells_spelling.Goals as goal
use Rattle.compact_values.proofs.Codes.{one_spelling}
use Rattle.compact_values.proofs.IdArrays.{cells_parts}

pub returns : goal.returns
returns c = one_spelling SpellsCells (λ b. joined (cells_at b)) cells_parts.code
