use Rattle.envelope_read.proofs.Lookups.{first_none}
use Rattle.envelope_read.proofs.lookup.carried_value.Goals as goal

pub returns-in-None-value_of : goal.returns-in-None-value_of
returns-in-None-value_of c = rw (first_none _ _ _ c.in-None.ensures c.in-None-value_of.ensures) c.value_of-in-None-value_of.ensures
