use Rattle.session_loop.proofs.Safe.{valid_call, fits_of, sound_of}
use Rattle.session_tests.proofs.test_driver.make_call.Goals as goal

pub give-requires : goal.give-requires
give-requires c =
    (c.call.result.now, c.call.ensures, fits_of _ _ c.call.result.now c.submit-submitted.result c.requires.sound c.submit-submitted.ensures.lone c.submit-submitted.ensures.submitted)

pub returns-clause-sound : goal.returns-clause-sound
returns-clause-sound c =
    sound_of _ _ c.call.result.now c.submit-submitted.result c.every_call_keeps_sound.ensures.kept c.requires.sound
    (valid_call c.args.session.now c.call.result.now c.call.ensures c.requires.safe) c.submit-submitted.ensures.submitted
