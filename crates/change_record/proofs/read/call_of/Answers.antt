use Rattle.std.proofs.Common.{ℕ, List, ap}
use Rattle.change_record.proofs.Bodies.{front_found, no_front, asked_of_change}
use Rattle.change_record.proofs.read.call_of.Goals as goal

pub returns-in-Some : goal.returns-in-Some
returns-in-Some c = λ call f is.
    let got = rw c.in-Some.is at c.in_ok-front.ensures in
    let x = front_found call c.args.bytes.now _ f is got in
    c.call_with.ensures call (asked_of_change call c.args.bytes.now f is) (ap (λ (y : (ℕ × (ℕ × List ℕ)) × List ℕ). y.0) x) (ap (λ (y : (ℕ × (ℕ × List ℕ)) × List ℕ). y.1) x)

pub returns-in-None : goal.returns-in-None
returns-in-None c = λ call f is.
    let got = rw c.in-None.is at c.in_ok-front.ensures in
    no_front call c.args.bytes.now f is got
