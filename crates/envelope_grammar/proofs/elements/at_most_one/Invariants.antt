use Rattle.std.proofs.Common.{◌≡◌, ◌++◌, vec_len}
use Rattle.envelope_grammar.specs.Grammar.{present}
use Rattle.envelope_grammar.proofs.Loops.{found_list}
use Rattle.envelope_grammar.proofs.elements.at_most_one.Given as goal

abbrev pub invariant-parts : goal.invariant-parts
invariant-parts l = present l.parts.items ++ found_list l.found ≡ present l.fn.parts

abbrev pub decreases-parts : goal.decreases-parts
decreases-parts l = vec_len l.parts
