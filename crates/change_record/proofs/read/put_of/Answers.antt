use Rattle.std.proofs.Common.{ℕ, List, ap}
use Rattle.change_record.proofs.Bodies.{Head, head_found, no_head}
use Rattle.change_record.proofs.read.put_of.Goals as goal

pub returns-in-Some : goal.returns-in-Some
returns-in-Some c = λ p f is.
    let got = rw c.in-Some.is at c.in_ok-head.ensures in
    let x = head_found p c.args.bytes.now _ f.fits is got in
    c.put_with.ensures p f (ap (λ (y : Head × List ℕ). y.0) x) (ap (λ (y : Head × List ℕ). y.1) x)

pub returns-in-None : goal.returns-in-None
returns-in-None c = λ p f is.
    let got = rw c.in-None.is at c.in_ok-head.ensures in
    no_head p c.args.bytes.now f.fits is got
