use Rattle.cell_journal.proofs.NoJournal.{one_place}
use Rattle.cell_journal.proofs.laws.one_fault.Goals as goal

pub returns : goal.returns
returns c = one_place
