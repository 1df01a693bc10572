use Rattle.std.proofs.Common.{All}
use Rattle.host_tests.specs.Hosts.{IsPassTo}
use Rattle.host_tests.proofs.many_tests.split_all.Given as goal

abbrev pub invariant-loop : goal.invariant-loop
invariant-loop g l = IsPassTo 1 l.host l.first × All (IsPassTo 1 l.host) l.passes.items
