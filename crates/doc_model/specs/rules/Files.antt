-- The file that a document has at an index.
use Rattle.std.specs.Prelude.{ℕ, List, [], map, find, flat_map, Option, Some, option_map, option_and_then, unwrap_or}
use Rattle.compact_values.specs.declared.ids.ExGuid.{ExGuid}
use Rattle.compact_values.specs.SameIds.{same_id, same_cell}
use Rattle.doc_model.specs.declared.element.Element.{Element}
use Rattle.doc_model.specs.declared.element.Object.{Object}
use Rattle.doc_model.specs.declared.element.Content.{Content}
use Rattle.doc_model.specs.declared.element.Content.TheVariants.{Inline, Apart}
use Rattle.doc_model.specs.rules.Finding.{Mappings, Manifest, as_index, as_storage, as_cell, as_group, as_blob, said, first}
use Rattle.doc_model.specs.rules.FileObjects.{FileObject, root_file}
use Rattle.doc_model.specs.rules.Reached.{chain, longest}

-- the root cell's current revision under these mappings: of the storage manifest's first root, and the first mapping of that cell
abbrev pub current_revision : List Element → Mappings → Option ExGuid
current_revision added maps =
    option_and_then (λ m. option_and_then (λ roots. option_and_then (λ root.
    option_and_then (λ c. said as_cell added c.target) (find (λ c. same_cell c.cell root.cell) maps.cells))
    (first roots)) (said as_storage added m.target)) (first maps.manifests)

-- the manifests of the root cell's revisions at an index, the current one first
abbrev pub root_chain : List Element → ExGuid → Option (List Manifest)
root_chain added index =
    option_and_then (λ maps. option_and_then (chain added maps.revisions longest) (current_revision added maps)) (said as_index added index)

-- the objects of a group, and of these revisions, in order
abbrev pub group_objects : List Element → ExGuid → List Object
group_objects added g = unwrap_or (said as_group added g) []

abbrev pub revision_objects : List Element → Manifest → List Object
revision_objects added m = flat_map (group_objects added) m.groups

abbrev pub objects_of : List Element → List Manifest → List Object
objects_of added manifests = flat_map (revision_objects added) manifests

-- the first object with this id in the groups of the root cell's current revision, then of its base, and so on
abbrev pub object : List Element → ExGuid → ExGuid → Option Object
object added index id =
    option_and_then (λ manifests. find (λ o. same_id o.id id) (objects_of added manifests)) (root_chain added index)

-- an object's own bytes: a blob's, where they stand apart
abbrev pub own_bytes : List Element → Content → Option (List ℕ)
own_bytes added (Inline bytes) = Some bytes
own_bytes added (Apart blob) = said as_blob added blob

abbrev pub as_file_object : List Element → Object → FileObject
as_file_object added o = record { id = o.id; references = o.references; bytes = own_bytes added o.content }

-- the objects of these revisions, as a file is made of them
abbrev pub file_objects : List Element → List Manifest → List FileObject
file_objects added manifests = map (as_file_object added) (objects_of added manifests)

-- the object of the first revision root along these revisions
abbrev pub root_object : List Manifest → Option ExGuid
root_object manifests = option_map (λ root. root.object) (first (flat_map (λ m. m.roots) manifests))

-- the file that these revisions stand for
abbrev pub file_of_chain : List Element → List Manifest → Option (List ℕ)
file_of_chain added manifests = option_and_then (root_file (file_objects added manifests)) (root_object manifests)

-- the file at an index, where it is defined
abbrev pub file : List Element → ExGuid → Option (List ℕ)
file added index = option_and_then (file_of_chain added) (root_chain added index)
