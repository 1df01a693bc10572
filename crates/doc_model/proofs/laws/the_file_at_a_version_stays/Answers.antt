use Rattle.doc_model.proofs.Following.{calls-follow, histories-follow}
use Rattle.doc_model.proofs.laws.the_file_at_a_version_stays.Goals as goal

pub returns-clause-call : goal.returns-clause-call
returns-clause-call c = calls-follow

pub returns-clause-calls : goal.returns-clause-calls
returns-clause-calls c = histories-follow
