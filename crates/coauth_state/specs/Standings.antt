-- How a lock stands to an id.
use Rattle.std.specs.Prelude.{◌≡◌, List, []}
use Rattle.compact_values.specs.declared.guid.Guid.{Guid}
use Rattle.doc_model.specs.declared.lock.LockRecord.{LockRecord}
use Rattle.doc_model.specs.declared.lock.LockRecord.TheVariants as lock
use Rattle.doc_model.specs.declared.lock.Member.{Member}
use Rattle.doc_model.specs.declared.reply.Code.TheVariants as code
use Rattle.doc_model.specs.rules.LockSteps.{LockEffect, refuses, on_shared, on_member}
use Rattle.coauth_state.specs.declared.standing.Standing.{Standing}
use Rattle.coauth_state.specs.declared.standing.Standing.TheVariants.{Free, Own, Other}

abbrev pub members_of : LockRecord → List Member
members_of (lock.Shared schema members) = members
members_of _ = []

-- the effect for each standing
abbrev pub effect_at : Standing → LockEffect → LockEffect → LockEffect
effect_at Free free own = free
effect_at Own free own = own
effect_at Other free own = refuses code.AlreadyLocked

-- it is how the lock stands to a schema lock id, and to a client of one
pub record StandsShared (schema : Guid) (lock : LockRecord) (standing : Standing) : Type 0 where
  pub effect : (free : LockEffect) (own : List Member → LockEffect) → on_shared schema lock free own ≡ effect_at standing free (own (members_of lock))

pub record StandsMember (schema client : Guid) (lock : LockRecord) (standing : Standing) : Type 0 where
  pub effect : (own : List Member → LockEffect) → on_member schema client lock own ≡ effect_at standing (refuses code.NotLocked) (own (members_of lock))
