use Rattle.std.proofs.Common.{◌-◌, List, length}
use Rattle.doc_model.specs.declared.element.Element.{Element}
use Rattle.change_record.specs.Elements.{AreElements}
use Rattle.change_record.proofs.FrontElements.{Todo}
use Rattle.change_record.proofs.elements.only_elements.Given as goal

abbrev pub invariant-taking : goal.invariant-taking
invariant-taking l = (es : List Element) → AreElements es l.count l.bytes → Todo es l.elements l.rest

abbrev pub decreases-taking : goal.decreases-taking
decreases-taking l = l.count - length l.elements
