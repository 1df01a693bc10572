use Rattle.doc_model.specs.rules.Sound.{Sound}
use Rattle.plain_core.specs.Keeping.{doc_of}
use Rattle.session_loop.specs.Safety.{IsSafe}
use Rattle.session_loop.specs.Sessions.{IsSettled}
use Rattle.session_tests.proofs.test_driver.serve.Given as goal

abbrev pub invariant-serving : goal.invariant-serving
invariant-serving l = record {
  settled : IsSettled l.session;
  safe : IsSafe l.session;
  sound : Sound (doc_of l.doc.core);
}
