-- What is named once while an index is gone through, and what is below an index, kind by kind.
use Rattle.std.specs.Prelude.{◌≡◌, Bool, true, List, [], ◌∷◌, ◌++◌, map, take, Option, None, Some}
use Rattle.std.specs.List.{list_all}
use Rattle.compact_values.specs.declared.ids.ExGuid.{ExGuid}
use Rattle.compact_values.specs.declared.ids.ExGuid.TheVariants.{Null, Id}
use Rattle.doc_model.specs.declared.element.Element.{Element}
use Rattle.doc_model.specs.declared.element.ManifestMap.{ManifestMap}
use Rattle.doc_model.specs.declared.element.Name.{Name}
use Rattle.doc_model.specs.declared.element.RevisionMap.{RevisionMap}
use Rattle.doc_model.specs.rules.Finding.{Mappings, as_revision, said}
use Rattle.doc_model.specs.rules.Reached.{base_of, blob_name, cell_name, cells_of, currents_of, group_name, groups_by, is_among, manifest_of, named_blobs, named_groups, named_revisions, revision_name, storage_name}
use Rattle.plain_core.specs.declared.naming.Below.{Below}

-- whether an id is null or among these
abbrev pub is_known : List ExGuid → ExGuid → Bool
is_known ids Null = true
is_known ids (Id g v) = is_among ids (Id g v)

-- whether each of these revisions goes back to one of them, or to none
abbrev pub goes_back : List Element → List RevisionMap → List ExGuid → ExGuid → Bool
goes_back added maps ids r = is_known ids (base_of (manifest_of added maps r))

abbrev pub is_closed : List Element → List RevisionMap → List ExGuid → Bool
is_closed added maps ids = list_all (goes_back added maps ids) ids

-- the manifest to which a revision is mapped, if it is, and the groups that a manifest names
abbrev pub targets_by : Option RevisionMap → List ExGuid
targets_by None = []
targets_by (Some m) = m.target ∷ []

abbrev pub groups_in : List Element → ExGuid → List ExGuid
groups_in added target = groups_by (said as_revision added target)

-- what an index names below itself: its mappings and cells, and the revisions, groups and blobs that follow from them
pub record IsBelow (added : List Element) (maps : Mappings) (below : Below) : Type 0 where
  pub mappings : below.revisions.maps.now ≡ maps.revisions
  pub cells : below.cells ≡ cells_of maps
  pub revisions : below.named ≡ named_revisions added maps.revisions (currents_of added maps)
  pub groups : below.groups ≡ named_groups added maps.revisions below.named
  pub blobs : below.blobs ≡ named_blobs added below.groups

-- the names of these, in the order of naming
abbrev pub names_of : List Element → List ManifestMap → Below → List Name
names_of added manifests below =
    map (storage_name added) (take 1 manifests)
    ++ map (cell_name added) below.cells
    ++ map (revision_name added below.revisions.maps.now) below.named
    ++ map (group_name added) below.groups
    ++ map (blob_name added) below.blobs
