-- The objects of a file by their places: what each refers to, and the walks of all of them, worked out once for each height.
use Rattle.std.specs.Prelude.{ℕ, zero, suc, ◌-◌, ◌==◌, nat_lt, Bool, false, if◌then◌else◌, List, [], ◌∷◌, length, map, filter, slice_get, Option, None, Some, Result, Ok, Err}
use Rattle.std.specs.List.{flat_map, position_or_len}
use Rattle.compact_values.specs.declared.ids.ExGuid.{ExGuid}
use Rattle.compact_values.specs.SameIds.{same_id}
use Rattle.doc_model.specs.rules.Nodes.{node_size}
use Rattle.file_nodes.specs.FileWalks.{together, arrived, behind, walk}
use Rattle.file_nodes.specs.declared.fault.NodeFault.{NodeFault}
use Rattle.file_nodes.specs.declared.fault.NodeFault.TheVariants.{Absent, TooLarge}
use Rattle.doc_model.specs.rules.Limits.{most_file, most_high}
use Rattle.file_nodes.specs.declared.links.Link.{Link}
use Rattle.file_nodes.specs.StoredObjects.{StoredObject}

-- the place of the first object with this id, or the length of the list where there is none
abbrev pub place_of : List StoredObject → ExGuid → ℕ
place_of objects id = position_or_len (λ o. same_id o.id id) objects

-- the places of the references of an object, and the length that it says if it has some
abbrev pub said_by : StoredObject → Option ℕ
said_by o = if length o.references == 0 then None else node_size o.bytes

abbrev pub link_of : List StoredObject → StoredObject → Link
link_of objects o = record { places = map (place_of objects) o.references; said = said_by o }

-- how long the files of these ids are together, by a table with the walk of each object
abbrev pub total_by : List (Result ℕ NodeFault) → List ExGuid → List ℕ → Result ℕ NodeFault
total_by table [] places = Ok 0
total_by table (id ∷ ids) [] = Ok 0
total_by table (id ∷ ids) (place ∷ places) = together (arrived id (slice_get table place)) (total_by table ids places)

-- the walk of a node, and of any object, by the table of one level less
abbrev pub node_by : List (Result ℕ NodeFault) → StoredObject → Link → Result ℕ NodeFault
node_by table o link = behind o link.said (total_by table o.references link.places)

abbrev pub walk_by : List (Result ℕ NodeFault) → StoredObject → Link → Result ℕ NodeFault
walk_by table o link = if length o.references == 0 then Ok (length o.bytes) else node_by table o link

-- whether the object at a place has a file with bytes
abbrev pub has_bytes : Option (Result ℕ NodeFault) → Bool
has_bytes None = false
has_bytes (Some (Ok size)) = nat_lt 0 size
has_bytes (Some (Err fault)) = false

abbrev pub filled : List (Result ℕ NodeFault) → Link → List ℕ
filled table link = filter (λ place. has_bytes (slice_get table place)) link.places

-- the bytes of an object without references, else the files of these places joined
abbrev pub file_at : (ℕ → List ℕ) → Option StoredObject → Option (List ℕ) → List ℕ
file_at child None places = []
file_at child (Some o) None = []
file_at child (Some o) (Some places) = if length o.references == 0 then o.bytes else flat_map child places

-- the file of the object at a place, by the places of the references that have bytes
unfoldable pub file_from : List StoredObject → List (List ℕ) → ℕ → ℕ → List ℕ
file_from objects children zero place = []
file_from objects children (suc n) place = file_at (file_from objects children n) (slice_get objects place) (slice_get children place)

-- the walks of all objects as references of a root
abbrev pub below_table : List StoredObject → List (Result ℕ NodeFault)
below_table objects = map (walk objects (most_high - 1)) objects

-- the file of the object at a place, as a root
abbrev pub joined_from : List StoredObject → ℕ → List ℕ
joined_from objects place = file_from objects (map (filled (below_table objects)) (map (link_of objects) objects)) most_high place

-- the length that a walk found, where a file may be as long
abbrev pub sized_by : Result ℕ NodeFault → Result ℕ NodeFault
sized_by (Ok size) = if nat_lt most_file size then Err TooLarge else Ok size
sized_by (Err fault) = Err fault

abbrev pub node_length : List StoredObject → StoredObject → Result ℕ NodeFault
node_length objects o = sized_by (node_by (below_table objects) o (link_of objects o))

abbrev pub length_at : List StoredObject → ExGuid → Option StoredObject → Result ℕ NodeFault
length_at objects root None = Err (Absent root)
length_at objects root (Some o) = if length o.references == 0 then Ok 0 else node_length objects o

abbrev pub length_answer : List StoredObject → ExGuid → Result ℕ NodeFault
length_answer objects root = length_at objects root (slice_get objects (place_of objects root))

-- the answer by the walk and the file
abbrev pub answer_by : Result ℕ NodeFault → List ℕ → Result (List ℕ) NodeFault
answer_by (Ok size) file = if nat_lt most_file size then Err TooLarge else Ok file
answer_by (Err fault) file = Err fault

abbrev pub node_answer : List StoredObject → ℕ → StoredObject → Result (List ℕ) NodeFault
node_answer objects place o = answer_by (node_by (below_table objects) o (link_of objects o)) (joined_from objects place)

abbrev pub answer_at : List StoredObject → ExGuid → ℕ → Option StoredObject → Result (List ℕ) NodeFault
answer_at objects root place None = Err (Absent root)
answer_at objects root place (Some o) = if length o.references == 0 then Ok [] else node_answer objects place o

abbrev pub file_answer : List StoredObject → ExGuid → Result (List ℕ) NodeFault
file_answer objects root = answer_at objects root (place_of objects root) (slice_get objects (place_of objects root))
