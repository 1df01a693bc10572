-- The readers of arrays of extended GUIDs and of cell ids recognise their spellings.
use Rattle.compact_values.specs.Ids.{SpellsExGuid, FitsExGuid, FitsCellId, exguid, cell_id}
use Rattle.compact_values.specs.IdReading.{exguid_at}
use Rattle.compact_values.specs.Items.{SpellsIds, SpellsCells}
use Rattle.compact_values.specs.Placed.{LacksItself, LacksInCellId, LacksInIds, LacksInCells, single, cell_id_at, ids_at, cells_at}
use Rattle.compact_values.specs.declared.ids.ExGuid.TheVariants as exguids
use Rattle.compact_values.proofs.ArrayCode.{array_parts}
use Rattle.compact_values.proofs.CellIdCode.{cell_id_parts}
use Rattle.compact_values.proofs.IdCode.{exguid_code}
use Rattle.compact_values.proofs.Parts.{RecognisesParts, single_parts}

pub ids_parts : RecognisesParts SpellsIds LacksInIds ids_at
unfolding ids_at
ids_parts = array_parts FitsExGuid exguid (LacksItself SpellsExGuid) (λ b. single (exguid_at b)) (single_parts SpellsExGuid exguid_at exguid_code) exguids.Null tt

pub cells_parts : RecognisesParts SpellsCells LacksInCells cells_at
unfolding cells_at
cells_parts = array_parts FitsCellId cell_id LacksInCellId cell_id_at cell_id_parts (record { first = exguids.Null; second = exguids.Null }) (tt, tt)
