use Rattle.std.proofs.Common.{arith}
use Rattle.data_elements.proofs.NumberedAnswer.{numbered_gives}
use Rattle.wire_responses.proofs.read.read_elements.Goals as goal

pub returns : goal.returns
returns c = numbered_gives c.args.bytes.now (λ i. omega (arith, c.type_inv.bytes i)) c.args.tree.now c.read_numbered.result c.read_numbered.ensures.answer
