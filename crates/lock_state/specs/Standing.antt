-- How a lock stands to an exclusive lock id.
use Rattle.std.specs.Prelude.{◌≡◌}
use Rattle.compact_values.specs.declared.guid.Guid.{Guid}
use Rattle.doc_model.specs.declared.lock.LockRecord.{LockRecord}
use Rattle.doc_model.specs.rules.LockSteps.{LockEffect, on_exclusive}
use Rattle.coauth_state.specs.declared.standing.Standing.{Standing}
use Rattle.coauth_state.specs.Standings.{effect_at}

pub record StandsExclusive (id : Guid) (lock : LockRecord) (standing : Standing) : Type 0 where
  pub effect : (free own : LockEffect) → on_exclusive id lock free own ≡ effect_at standing free own
