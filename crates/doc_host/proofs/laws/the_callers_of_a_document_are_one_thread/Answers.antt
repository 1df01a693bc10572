use Rattle.doc_host.proofs.Callers.{all-are-one-thread}
use Rattle.doc_host.proofs.laws.the_callers_of_a_document_are_one_thread.Goals as goal

pub returns : goal.returns
returns c = all-are-one-thread
