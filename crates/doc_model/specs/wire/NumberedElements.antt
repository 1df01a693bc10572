-- The data elements of a response: each has a serial number (MS-FSSHTTPB 2.2.1.12).
use Rattle.std.specs.Prelude.{ℕ, List}
use Rattle.compact_values.specs.declared.guid.Guid.{Guid}
use Rattle.compact_values.specs.declared.ids.Serial.TheVariants.{Number}
use Rattle.stream_objects.specs.declared.tree.Tree.{Tree}
use Rattle.stream_objects.specs.Objects.{Any}
use Rattle.stream_objects.specs.declared.object_types.TheConstants.{DATA_ELEMENT}
use Rattle.doc_model.specs.wire.ElementObjects.{PackageFields}
use Rattle.doc_model.specs.wire.Elements.{IsElementWith}
use Rattle.doc_model.specs.declared.element.NumberedElement.{NumberedElement}

-- 01, an element whose serial number isn't null, with the value of that number
abbrev pub IsNumbered : List ℕ → Tree → NumberedElement → Type 0
IsNumbered input t n = (guid : Guid) × IsElementWith input t (Number guid n.serial) n.element

-- 15, a package of them
abbrev pub IsNumberedPackage : List ℕ → Tree → List NumberedElement → Type 0
IsNumberedPackage input t ns = PackageFields input t × Any DATA_ELEMENT (IsNumbered input) t ns
