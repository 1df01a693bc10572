use Rattle.std.proofs.Common.{arith}
use Rattle.data_elements.proofs.KnowledgeAnswer.{knowledge_is, no_knowledge}
use Rattle.data_elements.proofs.knowledge.read_whole.Goals as goal

pub returns-in-Ok : goal.returns-in-Ok
returns-in-Ok c = knowledge_is c.args.bytes.now (λ i. omega (arith, c.type_inv.bytes i)) c.args.tree.now c.in-Ok.ranges c.in-Ok.ensures

pub returns-in-Err : goal.returns-in-Err
returns-in-Err c = no_knowledge c.args.bytes.now (λ i. omega (arith, c.type_inv.bytes i)) c.args.tree.now c.in-Err.fault c.in-Err.ensures
