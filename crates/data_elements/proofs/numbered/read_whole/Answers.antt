use Rattle.std.proofs.Common.{arith}
use Rattle.data_elements.proofs.NumberedAnswer.{numbered_is}
use Rattle.data_elements.proofs.numbered.read_whole.Goals as goal

pub returns : goal.returns
returns c = numbered_is c.args.bytes.now (λ i. omega (arith, c.type_inv.bytes i)) c.args.tree.now c.read_all.result c.read_all.ensures
