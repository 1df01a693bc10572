use Rattle.std.proofs.Common.{◌≡◌, ◌≤◌, drop}
use Rattle.envelope_grammar.specs.Grammar.{number_of, scalar_of, numbered}
use Rattle.envelope_grammar.proofs.value.numbered.Given as goal

abbrev pub invariant-loop-d : goal.invariant-loop-d
invariant-loop-d l = record { low : l.high ≤ 0x10FFFF; so_far : scalar_of (number_of l.base l.high (drop l.d-index l.digits)) ≡ numbered l.base l.digits }
