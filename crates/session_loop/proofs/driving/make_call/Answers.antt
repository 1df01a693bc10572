use Rattle.std.proofs.Common.{◌<◌, ℕ, [], ◌∷◌, length, subst}
use Rattle.std.proofs.lemmas.List.Elements.{All-set}
use Rattle.doc_model.specs.rules.Sound.{Sound}
use Rattle.session_loop.specs.Courses.{made}
use Rattle.session_loop.proofs.Joining.{went_by}
use Rattle.session_loop.proofs.Passing.{made_of, made_wanting}
use Rattle.session_loop.proofs.Safe.{valid_call, fits_of, sound_of, wanted_within}
use Rattle.session_loop.proofs.driving.make_call.Goals as goal

pub give-requires : goal.give-requires
give-requires g c =
    let within : c.args.doc < length c.args.docs.now = subst (λ (n : ℕ). c.args.doc < n) c.requires.docs (wanted_within c.args.session.now c.args.doc c.requires.want c.requires.settled c.requires.safe) in (
      c.call.result.now,
      c.call.ensures,
      fits_of _ _ c.call.result.now c.submit-submitted.result (c.requires.sound c.args.doc c.index-docs-doc.result within) c.submit-submitted.ensures.lone c.submit-submitted.ensures.submitted,
    )

pub returns-in-Ok-clause-sound : goal.returns-in-Ok-clause-sound
returns-in-Ok-clause-sound g c =
    let within : c.args.doc < length c.args.docs.now = subst (λ (n : ℕ). c.args.doc < n) c.requires.docs (wanted_within c.args.session.now c.args.doc c.requires.want c.requires.settled c.requires.safe) in
    All-set (λ d. Sound (g.C.Core.doc d.core)) c.args.docs.now c.args.doc c.submit-submitted.new.self
    (sound_of _ _ c.call.result.now c.submit-submitted.result c.every_call_keeps_sound.ensures.kept (c.requires.sound c.args.doc c.index-docs-doc.result within)
    (valid_call c.args.session.now c.call.result.now c.call.ensures c.requires.safe) c.submit-submitted.ensures.submitted)
    c.requires.sound

pub returns-in-Err-clause-sound : goal.returns-in-Err-clause-sound
returns-in-Err-clause-sound g c =
    let within : c.args.doc < length c.args.docs.now = subst (λ (n : ℕ). c.args.doc < n) c.requires.docs (wanted_within c.args.session.now c.args.doc c.requires.want c.requires.settled c.requires.safe) in
    All-set (λ d. Sound (g.C.Core.doc d.core)) c.args.docs.now c.args.doc c.submit-submitted.new.self
    (sound_of _ _ c.call.result.now c.submit-submitted.result c.every_call_keeps_sound.ensures.kept (c.requires.sound c.args.doc c.index-docs-doc.result within)
    (valid_call c.args.session.now c.call.result.now c.call.ensures c.requires.safe) c.submit-submitted.ensures.submitted)
    c.requires.sound

pub returns-in-Ok-clause-turned : goal.returns-in-Ok-clause-turned
returns-in-Ok-clause-turned g c = λ v docs.
    let within : c.args.doc < length c.args.docs.now = subst (λ (n : ℕ). c.args.doc < n) c.requires.docs (wanted_within c.args.session.now c.args.doc c.requires.want c.requires.settled c.requires.safe) in (
      [],
      made c.args.doc c.call.result.now c.submit-submitted.result ∷ [],
      made_of v (λ d. record { doc = g.C.Core.doc d.core; front = d.front }) c.args.docs.now c.args.doc c.index-docs-doc.result c.submit-submitted.new.self c.call.result.now c.submit-submitted.result docs within
          c.submit-submitted.ensures.lone c.submit-submitted.ensures.submitted,
      went_by c.args.session.now c.give.new.self (made c.args.doc c.call.result.now c.submit-submitted.result)
          (c.in-Ok.ensures.leads c.args.doc c.call.result.now c.requires.want c.call.ensures) (c.in-Ok.ensures.tracks c.args.doc c.call.result.now c.requires.want c.call.ensures),
    )

pub returns-in-Err-clause-turned : goal.returns-in-Err-clause-turned
returns-in-Err-clause-turned g c = λ v docs.
    let within : c.args.doc < length c.args.docs.now = subst (λ (n : ℕ). c.args.doc < n) c.requires.docs (wanted_within c.args.session.now c.args.doc c.requires.want c.requires.settled c.requires.safe) in
    made_wanting v _ c.args.session.now c.args.doc c.call.result.now c.submit-submitted.result
    (made_of v (λ d. record { doc = g.C.Core.doc d.core; front = d.front }) c.args.docs.now c.args.doc c.index-docs-doc.result c.submit-submitted.new.self c.call.result.now c.submit-submitted.result docs within
    c.submit-submitted.ensures.lone c.submit-submitted.ensures.submitted)
    c.requires.want c.call.ensures
