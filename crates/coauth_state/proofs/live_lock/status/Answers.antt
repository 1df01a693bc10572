use Rattle.std.proofs.Common.{◌≡◌, ◌∙◌, ap, ◌&&◌, count_by}
use Rattle.doc_model.specs.rules.Locks.{is_live}
use Rattle.doc_model.specs.rules.LockSteps.{coauthors_by}
use Rattle.coauth_state.proofs.LiveCoauthors.{live_coauthors}
use Rattle.coauth_state.proofs.live_lock.status.Goals as goal

pub returns-in-Shared : goal.returns-in-Shared
returns-in-Shared c =
    let counted : c.live_coauthors.result ≡ count_by (λ x. is_live c.args.moment x && x.coauthor) c.in-Shared.members = cc in
    rw c.in-Shared.is (c.coauthors_by.ensures ∙ ap coauthors_by counted ∙ live_coauthors c.in-Shared.schema c.args.moment c.in-Shared.members)
