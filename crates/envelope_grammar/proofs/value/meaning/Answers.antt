use Rattle.std.proofs.Common.{None}
use Rattle.envelope_grammar.specs.Reading.{meaning}
use Rattle.envelope_grammar.proofs.Values.{all_means}
use Rattle.envelope_grammar.proofs.value.meaning.Goals as goal

pub returns : goal.returns
returns c = all_means c.pieces.out.items c.pieces.rest.now (meaning None c.args.written.now) c.pieces-test.ensures c.pieces.invariant
