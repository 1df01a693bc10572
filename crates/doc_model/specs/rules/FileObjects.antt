-- The file that objects stand for (MS-FSSHTTPD 2.2): an object without references has its own bytes; one with references is
-- a node, and has their files joined in order.
use Rattle.std.specs.Prelude.{ℕ, zero, suc, ◌-◌, ◌==◌, if◌then◌else◌, List, [], ◌∷◌, ◌++◌, length, find, Option, None, Some, option_map, option_and_then}
use Rattle.compact_values.specs.declared.ids.ExGuid.{ExGuid}
use Rattle.compact_values.specs.SameIds.{same_id}
use Rattle.doc_model.specs.rules.Limits.{most_high}
use Rattle.doc_model.specs.rules.Nodes.{node_size}

-- an object as a file is made of it: its bytes are None where the blob that has them isn't there
pub record FileObject : Type 0 where
  pub id : ExGuid
  pub references : List ExGuid
  pub bytes : Option (List ℕ)

-- the first object with this id
abbrev pub find_object : List FileObject → ExGuid → Option FileObject
find_object objects id = find (λ o. same_id o.id id) objects

-- the files of these ids joined in order, where each has one
abbrev pub joined : (ExGuid → Option (List ℕ)) → List ExGuid → Option (List ℕ)
joined file_at [] = Some []
joined file_at (id ∷ ids) = option_and_then (λ file. option_map (λ files. file ++ files) (joined file_at ids)) (file_at id)

-- a joined file, where the bytes are a node of that length
abbrev pub of_node : List ℕ → List ℕ → Option (List ℕ)
of_node bytes file = option_and_then (λ size. if size == length file then Some file else None) (node_size bytes)

-- the file of an object whose references have these files
abbrev pub node_file : (ExGuid → Option (List ℕ)) → FileObject → Option (List ℕ)
node_file file_at o = option_and_then (λ bytes. option_and_then (of_node bytes) (joined file_at o.references)) o.bytes

-- the file of the object with this id, where no path from it down has more than n objects
unfoldable pub file_below : List FileObject → ℕ → ExGuid → Option (List ℕ)
file_below objects zero id = None
file_below objects (suc n) id =
    option_and_then (λ o. if length o.references == 0 then o.bytes else node_file (file_below objects n) o) (find_object objects id)

-- the file of a root, which is empty without references
abbrev pub root_file : List FileObject → ExGuid → Option (List ℕ)
root_file objects id =
    option_and_then (λ o. if length o.references == 0 then Some [] else node_file (file_below objects (most_high - 1)) o)
    (find_object objects id)
