use Rattle.std.proofs.Common.{◌≡◌, Some, ap}
use Rattle.doc_model.specs.declared.call.Put.{Put}
use Rattle.change_record.proofs.Bodies.{are_elements, put_is}
use Rattle.change_record.proofs.read.put_with.Goals as goal

pub returns-in_default : goal.returns-in_default
returns-in_default c = λ p f e r.
    let read = c.in_ok-elements.ensures p.elements (are_elements p c.args.head c.args.rest.now f e r) in
    absurd cc

pub returns : goal.returns
returns c = λ p f e r.
    let read = c.in_ok-elements.ensures p.elements (are_elements p c.args.head c.args.rest.now f e r) in
    let elements : c.in-Some.elements ≡ p.elements = cc in
    rw (c.value-flags.ensures, c.id.ensures) (ap (λ (q : Put). Some q) (put_is p c.args.head c.in-Some.elements e elements))
