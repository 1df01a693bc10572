use Rattle.host_tests.specs.Hosts.{IsPassTo}
use Rattle.host_tests.proofs.many_tests.call_many.Given as goal

abbrev pub invariant-loop-round : goal.invariant-loop-round
invariant-loop-round g l = IsPassTo 1 l.host l.pass
