-- The file at an index, as it is answered.
use Rattle.std.specs.Prelude.{◌≡◌, ℕ, ◌<◌, ◌≤◌, List, [], map, flat_map, length, Option, None, Some, option_and_then, unwrap_or, Result, Ok, Err}
use Rattle.compact_values.specs.declared.ids.ExGuid.{ExGuid}
use Rattle.doc_model.specs.declared.element.Element.{Element}
use Rattle.doc_model.specs.declared.element.Object.{Object}
use Rattle.doc_model.specs.rules.Files.{group_objects, objects_of, own_bytes, root_object}
use Rattle.doc_model.specs.rules.Finding.{Manifest}
use Rattle.doc_model.specs.rules.Limits.{most_file}
use Rattle.doc_model.specs.rules.Reached.{each_once}
use Rattle.file_nodes.specs.FileAnswers.{stored_file}
use Rattle.file_nodes.specs.StoredObjects.{StoredObject}
use Rattle.file_nodes.specs.declared.fault.NodeFault.{NodeFault}
use Rattle.file_nodes.specs.declared.fault.NodeFault.TheVariants as faults
use Rattle.compact_values.specs.declared.fault.NoMemory.{NoMemory}
use Rattle.plain_core.specs.declared.file.Filed.{Filed}
use Rattle.plain_core.specs.declared.file.Filed.TheVariants.{Undefined, TooLarge, File}

-- what is answered: that there is no file, that it has too many bytes, or the file
abbrev pub IsFiled : Filed → Option (List ℕ) → Type 0
IsFiled Undefined file = file ≡ None
IsFiled TooLarge file = (bytes : List ℕ) × (file ≡ Some bytes) × (most_file < length bytes)
IsFiled (File bytes) file = (file ≡ Some bytes) × (length bytes ≤ most_file)

-- an object with its own bytes, none where its blob isn't there
abbrev pub stored : List Element → Object → StoredObject
stored added o = record { id = o.id; references = o.references; bytes = unwrap_or (own_bytes added o.content) [] }

-- the groups that these revisions name, each once, and the objects of groups
abbrev pub groups_named : List Manifest → List ExGuid
groups_named manifests = each_once (flat_map (λ m. m.groups) manifests)

abbrev pub objects_in : List Element → List ExGuid → List StoredObject
objects_in added groups = map (stored added) (flat_map (group_objects added) groups)

abbrev pub objects_with_bytes : List Element → List Manifest → List StoredObject
objects_with_bytes added manifests = map (stored added) (objects_of added manifests)

-- the file that these revisions stand for, where each blob that isn't there counts as empty
abbrev pub file_with_bytes : List Element → List Manifest → Option (List ℕ)
file_with_bytes added manifests = option_and_then (stored_file (objects_with_bytes added manifests)) (root_object manifests)

-- what is answered where the objects of a file have this fault
abbrev pub without_file : NodeFault → Result Filed NoMemory
without_file faults.NoMemory = Err (record {})
without_file faults.TooLarge = Ok TooLarge
without_file (faults.Absent id) = Ok Undefined
without_file faults.TooHigh = Ok Undefined
without_file (faults.NotANode id) = Ok Undefined
without_file (faults.SizeDiffers size found) = Ok Undefined
