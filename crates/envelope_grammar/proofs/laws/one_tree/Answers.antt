use Rattle.envelope_grammar.proofs.DocumentLaws.{one_tree}
use Rattle.envelope_grammar.proofs.laws.one_tree.Goals as goal

pub returns : goal.returns
returns c = one_tree
