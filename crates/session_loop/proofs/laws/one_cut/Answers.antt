use Rattle.session_loop.proofs.OneCut.{cut_is_one}
use Rattle.session_loop.proofs.SomeCut.{some_cut}
use Rattle.session_loop.proofs.laws.one_cut.Goals as goal

pub returns-clause-one : goal.returns-clause-one
returns-clause-one c = λ names left bytes rs qs e f x y. cut_is_one rs qs names left bytes e f x y

pub returns-clause-some : goal.returns-clause-some
returns-clause-some c = some_cut
