-- What a plan of a lock step says.
use Rattle.std.specs.Prelude.{◌≡◌}
use Rattle.doc_model.specs.declared.lock.LockRecord.{LockRecord}
use Rattle.doc_model.specs.rules.LockSteps.{LockEffect, lock_after, lock_moved, lock_refusal}
use Rattle.coauth_state.specs.declared.plan.LockPlan.{LockPlan}

-- the plan is this effect of this lock
pub record IsEffect (lock : LockRecord) (effect : LockEffect) (plan : LockPlan) : Type 0 where
  pub after : plan.after ≡ lock_after lock effect
  pub moved : plan.moved ≡ lock_moved effect
  pub code : plan.code ≡ lock_refusal effect
