use Rattle.core_tests.proofs.EmptySound.{sound_copy}
use Rattle.core_tests.proofs.plan_tests.taken_over.Goals as goal

-- the copy is the new document, which has nothing
pub from_doc-requires : goal.from_doc-requires
from_doc-requires c = sound_copy _ _ _ c.in_ok-copy.ensures c.in_ok-core.ensures
