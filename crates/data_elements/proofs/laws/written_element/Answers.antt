use Rattle.doc_model.specs.wire.Elements.{IsElementWith}
use Rattle.doc_model.specs.rules.Weights.{objects_written}
use Rattle.doc_model.specs.wire.WrittenElements.{element_bytes}
use Rattle.data_elements.proofs.ElementStands.{element_stands}
use Rattle.data_elements.proofs.StandAlone.{at_all, stands_as}
use Rattle.data_elements.proofs.laws.written_element.Goals as goal

pub returns : goal.returns
returns c = λ e s f g few.
    let b = element_bytes e s in
    stands_as b 0x01 (λ t. IsElementWith b t s e) (objects_written e) few (element_stands b 9 e s 0 f g (at_all b))
