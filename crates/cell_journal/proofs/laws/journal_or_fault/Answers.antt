use Rattle.cell_journal.proofs.Judged.{judged}
use Rattle.cell_journal.proofs.laws.journal_or_fault.Goals as goal

pub returns : goal.returns
returns c = judged
