use Rattle.envelope_read.proofs.Callables.{verdict_few}
use Rattle.envelope_read.proofs.laws.few_subrequests.Goals as goal

pub returns : goal.returns
returns c = verdict_few
