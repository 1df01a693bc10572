use Rattle.std.proofs.Common.{arith}
use Rattle.wire_responses.proofs.ReplyLaws.{known_gives}
use Rattle.wire_responses.proofs.reply.read_known.Goals as goal

pub returns : goal.returns
returns c = known_gives c.args.bytes.now (λ i. omega (arith, c.type_inv.bytes i)) c.args.tree.now c.read_knowledge.result c.read_knowledge.ensures.answer
