use Rattle.change_record.proofs.OneChange.{one_change}
use Rattle.change_record.proofs.laws.one_change.Goals as goal

pub returns : goal.returns
returns c = one_change
