use Rattle.std.proofs.Common.{arith}
use Rattle.data_elements.proofs.NumberedAnswer.{only_numbered}
use Rattle.data_elements.proofs.numbered.read_numbered.Goals as goal

pub returns-clause-only : goal.returns-clause-only
returns-clause-only c = only_numbered c.args.bytes.now (λ i. omega (arith, c.type_inv.bytes i)) c.args.tree.now c.read_whole.result c.read_whole.ensures
