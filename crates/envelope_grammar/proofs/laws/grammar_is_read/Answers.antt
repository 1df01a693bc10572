use Rattle.envelope_grammar.proofs.DocumentLaws.{grammar_is_read}
use Rattle.envelope_grammar.proofs.laws.grammar_is_read.Goals as goal

pub returns : goal.returns
returns c = grammar_is_read
