use Rattle.std.proofs.Common.{◌≡◌, ◌∙◌, sym, ap, true, false}
use Rattle.std.specs.List.{list_any}
use Rattle.doc_model.specs.rules.Locks.{live, allowed, is_live}
use Rattle.lock_state.proofs.AnyLive.{with-live, without-live}
use Rattle.lock_state.proofs.allowing.allows.Goals as goal

pub returns-then-any_live : goal.returns-then-any_live
returns-then-any_live c =
    let there : list_any (is_live c.args.moment) c.in-Shared.members ≡ true = cc in
    c.carries-then-any_live.ensures ∙ sym (ap (λ l. allowed (live l c.args.moment) c.args.carried) c.in-Shared.is
    ∙ with-live c.in-Shared.schema c.args.moment c.args.carried c.in-Shared.members there)

pub returns-else-any_live : goal.returns-else-any_live
returns-else-any_live c =
    let none : list_any (is_live c.args.moment) c.in-Shared.members ≡ false = cc in
    sym (ap (λ l. allowed (live l c.args.moment) c.args.carried) c.in-Shared.is
    ∙ without-live c.in-Shared.schema c.args.moment c.args.carried c.in-Shared.members none)
