use Rattle.cell_journal.proofs.Unique.{come_first}
use Rattle.cell_journal.proofs.laws.whole_bodies_come_first.Goals as goal

pub returns : goal.returns
returns c = come_first
