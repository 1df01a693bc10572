-- How the data elements of a response are read: an element is in its own form where its serial number isn't null, too.
use Rattle.std.specs.Prelude.{ℕ, List}
use Rattle.compact_values.specs.declared.guid.Guid.{Guid}
use Rattle.compact_values.specs.declared.ids.ExGuid.{ExGuid}
use Rattle.compact_values.specs.declared.ids.Serial.TheVariants.{Number}
use Rattle.stream_objects.specs.declared.tree.Tree.{Tree}
use Rattle.doc_model.specs.wire.ElementObjects.{ElementFields}
use Rattle.doc_model.specs.readers.ElementSites.{Site, package_object, element, child, member}
use Rattle.doc_model.specs.readers.ElementSites as elements

-- its serial number isn't null
abbrev pub HasSerial : List ℕ → Tree → Type 0
HasSerial input t = (id : ExGuid) × (guid : Guid) × (value : ℕ) × (kind : ℕ) × ElementFields input t id (Number guid value) kind

abbrev pub InOwnForm : List ℕ → Site → Type 0
InOwnForm input (package_object t) = elements.InOwnForm input (package_object t)
InOwnForm input (element t) = HasSerial input t × elements.InOwnForm input (element t)
InOwnForm input (child t) = elements.InOwnForm input (child t)
InOwnForm input (member t) = elements.InOwnForm input (member t)
