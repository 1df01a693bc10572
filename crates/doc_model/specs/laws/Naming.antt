-- Naming each revision, group and blob once is enough; and the objects of a file are the first ones of their ids.
use Rattle.std.specs.Prelude.{◌≡◌, Bool, List, ◌++◌, map, find, flat_map, take, Some, option_map}
use Rattle.compact_values.specs.declared.ids.ExGuid.{ExGuid}
use Rattle.doc_model.specs.declared.element.Element.{Element}
use Rattle.doc_model.specs.declared.element.Name.{Name}
use Rattle.doc_model.specs.rules.Finding.{Manifest, Mappings}
use Rattle.doc_model.specs.rules.FileObjects.{find_object}
use Rattle.doc_model.specs.rules.Files.{as_file_object, file_objects, object, root_chain}
use Rattle.doc_model.specs.rules.Reached.{blob_name, blobs_of, cell_name, cells_of, currents_of, enough, group_name, groups_of, named_along, names_below, revision_name, storage_name}

-- what an index names below itself, where each cell names its whole chain, each revision all of its groups and each group all
-- of its blobs, whether named before or not
abbrev pub named_again : List Element → Mappings → List Name
named_again added maps =
    let revisions = flat_map (named_along added maps.revisions (enough maps.revisions)) (currents_of added maps) in
    let groups = flat_map (groups_of added maps.revisions) revisions in
    map (storage_name added) (take 1 maps.manifests)
    ++ map (cell_name added) (cells_of maps)
    ++ map (revision_name added maps.revisions) revisions
    ++ map (group_name added) groups
    ++ map (blob_name added) (flat_map (blobs_of added) groups)

-- Whatever is looked for among the names, the same is found first where each is named once. So neither the first that is
-- absent changes by it, nor what is reached.
abbrev pub OnceIsEnough : Type 0
OnceIsEnough = (added : List Element) (maps : Mappings) (test : Name → Bool) → find test (names_below added maps) ≡ find test (named_again added maps)

-- The object with an id at an index is the one that the file at the index is made with.
abbrev pub ObjectOfTheFile : Type 0
ObjectOfTheFile =
    (added : List Element) (index id : ExGuid) (manifests : List Manifest) → root_chain added index ≡ Some manifests
    → find_object (file_objects added manifests) id ≡ option_map (as_file_object added) (object added index id)
