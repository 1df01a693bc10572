use Rattle.std.proofs.Common.{ℕ, subst}
use Rattle.document_store.specs.Causes.{ShowsIn}
use Rattle.document_store.proofs.folder_store.FolderStoreStore.publish.Goals as goal

pub returns-in-Err-clause-cause : goal.returns-in-Err-clause-cause
returns-in-Err-clause-cause c = record {
  later = c.refuse.ensures.later;
  why = subst (λ (n : ℕ). ShowsIn n c.args.self.now.faults c.refuse.new.self.faults c.refuse.result) c.failures-faults.ensures c.refuse.ensures.why;
}
