use Rattle.std.proofs.Common.{ℕ, List, [], ◌∷◌, Option, sym, subst}
use Rattle.session_loop.specs.Courses.{told}
use Rattle.session_loop.specs.Driving.{Tells}
use Rattle.session_loop.proofs.Joining.{went_by}
use Rattle.session_loop.proofs.Passing.{told_one, told_passed, told_wanting}
use Rattle.session_loop.proofs.driving.tell_moment.Goals as goal

pub returns-in-Ok-clause-turned : goal.returns-in-Ok-clause-turned
returns-in-Ok-clause-turned g c = λ v due.
    let tells : Tells v.told (g.T.Clock.told c.moment-moment.new.self) (c.moment-moment.result ∷ []) =
    subst (λ (l : Option (List ℕ)). Tells l (g.T.Clock.told c.moment-moment.new.self) (c.moment-moment.result ∷ [])) (sym due) (told_one _ _ c.moment-moment.result c.moment-moment.ensures.first c.moment-moment.ensures.rest) in (
      [],
      told c.moment-moment.result ∷ [],
      told_passed v (g.T.Clock.told c.moment-moment.new.self) c.moment-moment.result tells,
      went_by c.args.session.now c.tell.new.self (told c.moment-moment.result) c.in-Ok.ensures.leads c.in-Ok.ensures.tracks,
    )

pub returns-in-Err-clause-turned : goal.returns-in-Err-clause-turned
returns-in-Err-clause-turned g c = λ v due.
    let tells : Tells v.told (g.T.Clock.told c.moment-moment.new.self) (c.moment-moment.result ∷ []) =
    subst (λ (l : Option (List ℕ)). Tells l (g.T.Clock.told c.moment-moment.new.self) (c.moment-moment.result ∷ [])) (sym due) (told_one _ _ c.moment-moment.result c.moment-moment.ensures.first c.moment-moment.ensures.rest) in
    told_wanting v (record v { told = g.T.Clock.told c.moment-moment.new.self }) c.args.session.now c.moment-moment.result
    (told_passed v (g.T.Clock.told c.moment-moment.new.self) c.moment-moment.result tells) c.requires.want
