-- The weight of an element: the length of its written form with a null serial number.
use Rattle.std.specs.Prelude.{ℕ, ◌+◌, ◌*◌, List, length, nat_le, nat_lt, if◌then◌else◌}
use Rattle.std.specs.List.{sum_by}
use Rattle.compact_values.specs.Compact.{compact}
use Rattle.compact_values.specs.declared.ids.Serial.TheVariants as serials
use Rattle.doc_model.specs.wire.WrittenElements.{element_bytes}
use Rattle.doc_model.specs.declared.element.Body.{Body}
use Rattle.doc_model.specs.declared.element.Body.TheVariants.{Index, Storage, Cell, Revision, Group, Blob}
use Rattle.doc_model.specs.declared.element.Element.{Element}
use Rattle.doc_model.specs.declared.element.NumberedElement.{NumberedElement}

unfoldable pub weight : Element → ℕ
weight e = length (element_bytes e serials.Null)

abbrev pub weight_of : List Element → ℕ
weight_of es = sum_by weight es

-- how many stream objects are written in an element, and for the element itself
abbrev pub objects_in : Body → ℕ
objects_in (Index manifests cells revisions) = length manifests + length cells + length revisions
objects_in (Storage schema roots) = 1 + length roots
objects_in (Cell current) = 1
objects_in (Revision id base roots groups) = 1 + length roots + length groups
objects_in (Group objects) = 2 + 2 * length objects
objects_in (Blob bytes) = 1

abbrev pub objects_written : Element → ℕ
objects_written e = 1 + objects_in e.body

-- how many bytes an object has whose type has six bits: its start and so many bytes of fields
abbrev pub started_size : ℕ → ℕ
started_size fields = (if nat_le fields 127 then 2 else if nat_lt fields 32767 then 4 else 4 + length (compact fields)) + fields

-- how many are written in a package
abbrev pub package_objects : List NumberedElement → ℕ
package_objects elements = 1 + sum_by (λ n. objects_written n.element) elements
