use Rattle.std.proofs.Common.{◌≡◌, None}
use Rattle.runner_tests.proofs.test_host.Host.run.Given as goal

-- no call is out
abbrev pub invariant-calling : goal.invariant-calling
invariant-calling l = l.runner.call ≡ None
