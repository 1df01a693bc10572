use Rattle.doc_model.proofs.Added.{names-stay, chain-stays, file-stays}
use Rattle.doc_model.proofs.SoundCommits.{reached-stays}
use Rattle.doc_model.proofs.laws.later_elements_change_nothing.Goals as goal

pub returns-clause-names : goal.returns-clause-names
returns-clause-names c = names-stay

pub returns-clause-file : goal.returns-clause-file
returns-clause-file c = file-stays

pub returns-clause-reached : goal.returns-clause-reached
returns-clause-reached c = reached-stays

pub returns-clause-chain : goal.returns-clause-chain
returns-clause-chain c = chain-stays
