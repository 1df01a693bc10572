use Rattle.std.proofs.Common.{◌≡◌, ◌++◌, cond, drop}
use Rattle.doc_model.specs.rules.LockSteps.{with_client}
use Rattle.coauth_state.proofs.members.with_client.Given as goal

-- what is there, and what is still to be done
abbrev pub invariant-loop-x : goal.invariant-loop-x
invariant-loop-x l =
    l.all ++ cond l.found (drop l.x-index l.members) (with_client l.client l.until l.coauthor (drop l.x-index l.members))
    ≡ with_client l.client l.until l.coauthor l.members
