-- The walk through the objects of a file, in file order: its first fault, or how long the file is (MS-FSSHTTPD 2.2).
use Rattle.std.specs.Prelude.{ℕ, zero, suc, ◌+◌, ◌-◌, ◌==◌, if◌then◌else◌, List, [], ◌∷◌, length, map, find, Option, None, Some, option_map, Result, Ok, Err}
use Rattle.compact_values.specs.declared.ids.ExGuid.{ExGuid}
use Rattle.compact_values.specs.SameIds.{same_id}
use Rattle.doc_model.specs.rules.FileObjects.{FileObject}
use Rattle.doc_model.specs.rules.Limits.{most_high}
use Rattle.doc_model.specs.rules.Nodes.{node_size}
use Rattle.file_nodes.specs.declared.fault.NodeFault.{NodeFault}
use Rattle.file_nodes.specs.declared.fault.NodeFault.TheVariants.{Absent, TooHigh, NotANode, SizeDiffers}
use Rattle.file_nodes.specs.StoredObjects.{StoredObject}

-- the objects as a file is made of them: each has its bytes
abbrev pub as_file_object : StoredObject → FileObject
as_file_object o = record { id = o.id; references = o.references; bytes = Some o.bytes }

abbrev pub stored_objects : List StoredObject → List FileObject
stored_objects objects = map as_file_object objects

-- the first object with this id
abbrev pub find_stored : List StoredObject → ExGuid → Option StoredObject
find_stored objects id = find (λ o. same_id o.id id) objects

-- how long two files are together, one behind the other. A fault of the first comes before one of the second.
abbrev pub together : Result ℕ NodeFault → Result ℕ NodeFault → Result ℕ NodeFault
together (Ok first) (Ok second) = Ok (first + second)
together (Ok first) (Err fault) = Err fault
together (Err fault) second = Err fault

abbrev pub total : List (Result ℕ NodeFault) → Result ℕ NodeFault
total [] = Ok 0
total (x ∷ xs) = together x (total xs)

-- the arrival at an id, of which the walk of its object gives this
abbrev pub arrived : ExGuid → Option (Result ℕ NodeFault) → Result ℕ NodeFault
arrived id None = Err (Absent id)
arrived id (Some walked) = walked

abbrev pub arrive : List StoredObject → (StoredObject → Result ℕ NodeFault) → ExGuid → Result ℕ NodeFault
arrive objects walk id = arrived id (option_map walk (find_stored objects id))

-- an object with references is a node that says the length that was found
abbrev pub judged : StoredObject → Option ℕ → ℕ → Result ℕ NodeFault
judged o None found = Err (NotANode o.id)
judged o (Some said) found = if said == found then Ok found else Err (SizeDiffers said found)

-- the object behind its references, which are so long together
abbrev pub behind : StoredObject → Option ℕ → Result ℕ NodeFault → Result ℕ NodeFault
behind o said (Ok found) = judged o said found
behind o said (Err fault) = Err fault

-- an object from which no path down may have more than n objects
unfoldable pub walk : List StoredObject → ℕ → StoredObject → Result ℕ NodeFault
walk objects zero o = Err TooHigh
walk objects (suc n) o =
    if length o.references == 0 then Ok (length o.bytes) else behind o (node_size o.bytes) (total (map (arrive objects (walk objects n)) o.references))

-- the root, whose file is empty without references
abbrev pub walk_from : List StoredObject → StoredObject → Result ℕ NodeFault
walk_from objects o =
    if length o.references == 0 then Ok 0 else behind o (node_size o.bytes) (total (map (arrive objects (walk objects (most_high - 1))) o.references))

abbrev pub walk_root : List StoredObject → ExGuid → Result ℕ NodeFault
walk_root objects root = arrive objects (walk_from objects) root

-- the first fault of the walk from this root, if there is one
abbrev pub fault_of : Result ℕ NodeFault → Option NodeFault
fault_of (Ok size) = None
fault_of (Err fault) = Some fault

abbrev pub first_fault : List StoredObject → ExGuid → Option NodeFault
first_fault objects root = fault_of (walk_root objects root)
