use Rattle.envelope_read.proofs.Callables.{verdict_callable, valid_callable}
use Rattle.envelope_read.proofs.laws.calls_may_be_made.Goals as goal

pub returns-clause-callable : goal.returns-clause-callable
returns-clause-callable c = verdict_callable

pub returns-clause-valid : goal.returns-clause-valid
returns-clause-valid c = valid_callable
