use Rattle.std.proofs.Common.{subst, sym, ap, ◌∙◌}
use Rattle.doc_model.specs.rules.Sound.{Sound}
use Rattle.plain_core.specs.Keeping.{doc_of}
use Rattle.session_tests.proofs.test_driver.serve.Goals as goal

-- a new document is sound
pub serving-init : goal.serving-init
serving-init c = record {
  settled = c.in_ok-session.ensures.settled;
  safe = c.in_ok-session.ensures.safe;
  sound = subst Sound (sym (ap (λ d. doc_of d.core) c.new-doc.ensures ∙ c.in_ok-new.ensures)) (c.every_call_keeps_sound.ensures.empty _);
}
