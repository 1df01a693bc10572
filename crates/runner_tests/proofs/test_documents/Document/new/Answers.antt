use Rattle.runner_tests.proofs.test_documents.Document.new.Goals as goal

-- the core is the document without anything
pub invariant_of-result : goal.invariant_of-result
invariant_of-result c = rw c.in_ok-core.ensures (c.every_call_keeps_sound.ensures.empty c.args.guid)
