use Rattle.compact_values.specs.Items.{SpellsIds}
use Rattle.compact_values.specs.Placed.{joined, ids_at}
use Rattle.compact_values.proofs.laws.one_ids_spelling.Goals as goal
use Rattle.compact_values.proofs.Codes.{one_spelling}
use Rattle.compact_values.proofs.IdArrays.{ids_parts}

pub returns : goal.returns
returns c = one_spelling SpellsIds (λ b. joined (ids_at b)) ids_parts.code
