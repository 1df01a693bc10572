use Rattle.std.proofs.Common.{◌+◌, length}
use Rattle.doc_model.specs.wire.Knowledges.{IsKnowledge}
use Rattle.doc_model.specs.wire.WrittenElements.{knowledge_bytes}
use Rattle.data_elements.proofs.PackageStands.{knowledge_stands}
use Rattle.data_elements.proofs.StandAlone.{at_all, stands_as}
use Rattle.data_elements.proofs.laws.written_knowledge.Goals as goal

pub returns : goal.returns
returns c = λ k f few.
    let b = knowledge_bytes k in
    stands_as b 0x10 (λ t. IsKnowledge b t k) (3 + length k.ranges) few (knowledge_stands b 8 k 0 f (at_all b))
