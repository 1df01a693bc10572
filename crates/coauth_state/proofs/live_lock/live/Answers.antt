use Rattle.std.proofs.Common.{◌∙◌, ap}
use Rattle.doc_model.specs.rules.Locks.{shared_by}
use Rattle.coauth_state.proofs.live_lock.live.Goals as goal

pub returns-in_ok-members-in-Shared : goal.returns-in_ok-members-in-Shared
returns-in_ok-members-in-Shared c =
    rw c.in-Shared.is (c.shared_by.ensures ∙ ap (shared_by c.in-Shared.schema) c.in_ok-members-in-Shared.ensures)
