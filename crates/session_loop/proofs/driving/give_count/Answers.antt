use Rattle.std.proofs.Common.{◌<◌, ℕ, [], ◌∷◌, length, subst}
use Rattle.session_loop.specs.Courses.{counted}
use Rattle.session_loop.proofs.Joining.{went_by}
use Rattle.session_loop.proofs.Passing.{counted_of, counted_wanting}
use Rattle.session_loop.proofs.Safe.{front_within}
use Rattle.session_loop.proofs.driving.give_count.Goals as goal

pub returns-in-Ok-clause-turned : goal.returns-in-Ok-clause-turned
returns-in-Ok-clause-turned g c = λ v docs.
    let within : c.args.doc < length c.args.docs.now = subst (λ (n : ℕ). c.args.doc < n) c.requires.docs (front_within c.args.session.now c.args.doc c.requires.want c.requires.safe) in (
      [],
      counted c.args.doc c.front.result ∷ [],
      counted_of v (λ d. record { doc = g.C.Core.doc d.core; front = d.front }) c.args.docs.now c.args.doc c.front.result c.index-docs-doc.result docs within c.index-docs-doc.is c.front.ensures,
      went_by c.args.session.now c.give_front.new.self (counted c.args.doc c.front.result)
          (c.in-Ok.ensures.leads c.args.doc c.requires.want) (c.in-Ok.ensures.tracks c.args.doc c.requires.want),
    )

pub returns-in-Err-clause-turned : goal.returns-in-Err-clause-turned
returns-in-Err-clause-turned g c = λ v docs.
    let within : c.args.doc < length c.args.docs.now = subst (λ (n : ℕ). c.args.doc < n) c.requires.docs (front_within c.args.session.now c.args.doc c.requires.want c.requires.safe) in
    counted_wanting v v c.args.session.now c.args.doc c.front.result
    (counted_of v (λ d. record { doc = g.C.Core.doc d.core; front = d.front }) c.args.docs.now c.args.doc c.front.result c.index-docs-doc.result docs within c.index-docs-doc.is c.front.ensures)
    c.requires.want
