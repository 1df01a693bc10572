use Rattle.std.proofs.Common.{◌≡◌, length, None}
use Rattle.envelope_grammar.specs.Reading.{in_front, meaning}
use Rattle.envelope_grammar.proofs.value.meaning.Given as goal

abbrev pub invariant-pieces : goal.invariant-pieces
invariant-pieces l = in_front l.out.items (meaning None l.rest) ≡ meaning None l.written

abbrev pub decreases-pieces : goal.decreases-pieces
decreases-pieces l = length l.rest
