use Rattle.std.proofs.Common.{map}
use Rattle.doc_model.specs.wire.Elements.{IsPackage}
use Rattle.doc_model.specs.rules.Weights.{package_objects}
use Rattle.doc_model.specs.wire.WrittenElements.{package_bytes}
use Rattle.data_elements.proofs.PackageStands.{package_stands}
use Rattle.data_elements.proofs.StandAlone.{at_all, stands_as}
use Rattle.data_elements.proofs.laws.written_package.Goals as goal

pub returns : goal.returns
returns c = λ guid ns g f few.
    let b = package_bytes guid ns in
    stands_as b 0x15 (λ t. IsPackage b t (map (λ m. m.element) ns)) (package_objects ns) few (package_stands b 8 guid ns 0 g f (at_all b))
