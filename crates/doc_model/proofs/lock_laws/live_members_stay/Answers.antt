use Rattle.doc_model.proofs.KeepsMembers.{keeps-members}
use Rattle.doc_model.proofs.lock_laws.live_members_stay.Goals as goal

pub returns : goal.returns
returns c = keeps-members
