use Rattle.envelope_read.proofs.CellLengths.{verdict_short}
use Rattle.envelope_read.proofs.laws.cells_are_within.Goals as goal

pub returns : goal.returns
returns c = verdict_short
