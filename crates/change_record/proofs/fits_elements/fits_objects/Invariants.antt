use Rattle.std.proofs.Common.{take}
use Rattle.std.specs.List.{AllByRecursion}
use Rattle.doc_model.specs.wire.FittingElements.{FitsObject}
use Rattle.change_record.proofs.fits_elements.fits_objects.Given as goal

abbrev pub invariant-loop-object : goal.invariant-loop-object
invariant-loop-object l = AllByRecursion FitsObject (take l.object-index l.objects)
