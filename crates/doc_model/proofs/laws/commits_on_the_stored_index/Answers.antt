use Rattle.doc_model.proofs.OnStored.{on-stored, one-commit}
use Rattle.doc_model.proofs.SameIndex.{equal-commits}
use Rattle.doc_model.proofs.laws.commits_on_the_stored_index.Goals as goal

pub returns-clause-expected : goal.returns-clause-expected
returns-clause-expected c = on-stored

pub returns-clause-one : goal.returns-clause-one
returns-clause-one c = one-commit

pub returns-clause-same : goal.returns-clause-same
returns-clause-same c = equal-commits
