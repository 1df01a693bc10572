use Rattle.std.proofs.Common.{take}
use Rattle.std.specs.List.{AllByRecursion}
use Rattle.doc_model.specs.wire.FittingElements.{FitsElement}
use Rattle.change_record.proofs.fits_elements.fits_elements.Given as goal

abbrev pub invariant-loop-element : goal.invariant-loop-element
invariant-loop-element l = AllByRecursion FitsElement (take l.element-index l.elements)
