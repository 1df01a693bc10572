use Rattle.knowledge_set.proofs.OneList.{one-list}
use Rattle.knowledge_set.proofs.laws.a_set_has_one_list.Goals as goal

pub returns : goal.returns
returns c = one-list
