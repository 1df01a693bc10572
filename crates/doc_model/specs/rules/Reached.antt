-- What an index names, what of it is not there, and what of the document is reached from it.
use Rattle.std.specs.Prelude.{ℕ, zero, suc, ◌+◌, Bool, not, ◌&&◌, if◌then◌else◌, List, [], ◌∷◌, ◌++◌, length, map, filter, find, flat_map, take, Option, None, Some, is_some, option_map, option_and_then, unwrap_or}
use Rattle.std.specs.List.{list_any, list_all}
use Rattle.compact_values.specs.declared.ids.ExGuid.{ExGuid}
use Rattle.compact_values.specs.declared.ids.ExGuid.TheVariants.{Null, Id}
use Rattle.compact_values.specs.SameIds.{same_id, same_cell}
use Rattle.doc_model.specs.declared.element.Element.{Element}
use Rattle.doc_model.specs.declared.element.Name.{Name}
use Rattle.doc_model.specs.declared.element.ManifestMap.{ManifestMap}
use Rattle.doc_model.specs.declared.element.CellMap.{CellMap}
use Rattle.doc_model.specs.declared.element.RevisionMap.{RevisionMap}
use Rattle.doc_model.specs.declared.element.Content.{Content}
use Rattle.doc_model.specs.declared.element.Content.TheVariants.{Inline, Apart}
use Rattle.doc_model.specs.rules.Limits.{most_revisions}
use Rattle.doc_model.specs.rules.Finding.{Mappings, Manifest, as_index, as_storage, as_cell, as_revision, as_group, as_blob, said, firsts}

-- an element that is named, and whether its place finds something there
abbrev pub name : {X : Type 0} → ExGuid → Option X → Name
name id what = record { id = id; found = is_some what }

-- the mapping of a revision: of several the first counts
abbrev pub mapping_of : List RevisionMap → ExGuid → Option RevisionMap
mapping_of maps r = find (λ m. same_id m.revision r) maps

-- the manifest of a revision that is mapped and there
abbrev pub manifest_of : List Element → List RevisionMap → ExGuid → Option Manifest
manifest_of added maps r = option_and_then (λ m. said as_revision added m.target) (mapping_of maps r)

-- the revision that a manifest goes back to, null where there is no manifest
abbrev pub base_of : Option Manifest → ExGuid
base_of None = Null
base_of (Some m) = m.base

-- whether an id is among these
abbrev pub is_among : List ExGuid → ExGuid → Bool
is_among ids id = list_any (same_id id) ids

-- the revisions that are named from r on along the bases, at most n of them
unfoldable pub named_along : List Element → List RevisionMap → ℕ → ExGuid → List ExGuid
named_along added maps zero r = []
named_along added maps (suc n) Null = []
named_along added maps (suc n) (Id g v) = Id g v ∷ named_along added maps n (base_of (manifest_of added maps (Id g v)))

-- the longest chain that is let be, and enough to come along any chain: its revisions that are mapped and differ are no more than the mappings,
-- one that is not mapped ends it, and from one that was named before on it names nothing new
abbrev pub longest : ℕ
longest = most_revisions

abbrev pub enough : List RevisionMap → ℕ
enough maps = longest + length maps + 1

-- of ids each one once, where it comes first
abbrev pub each_once : List ExGuid → List ExGuid
each_once ids = firsts same_id ids

-- the revisions that are named, cell by cell: each chain to its end, or to a revision that was named before
abbrev pub named_revisions : List Element → List RevisionMap → List ExGuid → List ExGuid
named_revisions added maps currents = each_once (flat_map (named_along added maps (enough maps)) currents)

-- the name of a revision's manifest: by its target, or by its own id where it is not mapped
abbrev pub revision_name : List Element → List RevisionMap → ExGuid → Name
revision_name added maps r = name (unwrap_or (option_map (λ m. m.target) (mapping_of maps r)) r) (manifest_of added maps r)

-- the blobs that the objects of a group name
abbrev pub blob_of : Content → List ExGuid
blob_of (Inline bytes) = []
blob_of (Apart blob) = blob ∷ []

abbrev pub blobs_of : List Element → ExGuid → List ExGuid
blobs_of added group = flat_map (λ o. blob_of o.content) (unwrap_or (said as_group added group) [])

-- of two mappings of one cell the first
abbrev pub same_cells : CellMap → CellMap → Bool
same_cells a b = same_cell a.cell b.cell

abbrev pub cells_of : Mappings → List CellMap
cells_of maps = firsts same_cells maps.cells

-- the current revisions of the cells, null where the cell's manifest isn't there
abbrev pub current_of : List Element → CellMap → ExGuid
current_of added c = unwrap_or (said as_cell added c.target) Null

abbrev pub currents_of : List Element → Mappings → List ExGuid
currents_of added maps = map (current_of added) (cells_of maps)

-- the groups that a revision names
abbrev pub groups_by : Option Manifest → List ExGuid
groups_by None = []
groups_by (Some m) = m.groups

abbrev pub groups_of : List Element → List RevisionMap → ExGuid → List ExGuid
groups_of added maps r = groups_by (manifest_of added maps r)

-- what is named of each kind
abbrev pub storage_name : List Element → ManifestMap → Name
storage_name added m = name m.target (said as_storage added m.target)

abbrev pub cell_name : List Element → CellMap → Name
cell_name added c = name c.target (said as_cell added c.target)

abbrev pub group_name : List Element → ExGuid → Name
group_name added g = name g (said as_group added g)

abbrev pub blob_name : List Element → ExGuid → Name
blob_name added b = name b (said as_blob added b)

-- the groups that revisions name, and the blobs that groups name, each once
abbrev pub named_groups : List Element → List RevisionMap → List ExGuid → List ExGuid
named_groups added maps revisions = each_once (flat_map (groups_of added maps) revisions)

abbrev pub named_blobs : List Element → List ExGuid → List ExGuid
named_blobs added groups = each_once (flat_map (blobs_of added) groups)

-- what an index names below itself, in the order of naming
abbrev pub names_below : List Element → Mappings → List Name
names_below added maps =
    let revisions = named_revisions added maps.revisions (currents_of added maps) in
    let groups = named_groups added maps.revisions revisions in
    map (storage_name added) (take 1 maps.manifests)
    ++ map (cell_name added) (cells_of maps)
    ++ map (revision_name added maps.revisions) revisions
    ++ map (group_name added) groups
    ++ map (blob_name added) (named_blobs added groups)

-- all that is named, the index first
abbrev pub names : List Element → ExGuid → List Name
names added index =
    name index (said as_index added index) ∷ unwrap_or (option_map (names_below added) (said as_index added index)) []

-- the first that is not there
abbrev pub absent : List Element → ExGuid → Option ExGuid
absent added index = option_map (λ n. n.id) (find (λ n. not n.found) (names added index))

-- the manifests of a revision and of its bases, where all are there and they are at most n
unfoldable pub chain : List Element → List RevisionMap → ℕ → ExGuid → Option (List Manifest)
chain added maps n Null = Some []
chain added maps zero (Id g v) = None
chain added maps (suc n) (Id g v) =
    option_and_then (λ m. option_map (λ rest. m ∷ rest) (chain added maps n m.base)) (manifest_of added maps (Id g v))

-- whether each chain of bases ends, and has at most 1,024 revisions
abbrev pub chains_end : List Element → Mappings → Bool
chains_end added maps = list_all (λ r. is_some (chain added maps.revisions longest r)) (currents_of added maps)

-- what of the document is named from an index
abbrev pub reached_from : List Element → ExGuid → List Element
reached_from added index = filter (λ e. is_among (map (λ n. n.id) (names added index)) e.id) added

-- what is reached, where all that is named is there and each chain ends
abbrev pub reached : List Element → ExGuid → Option (List Element)
reached added index =
    option_and_then
    (λ maps. if list_all (λ n. n.found) (names added index) && chains_end added maps then Some (reached_from added index) else None)
    (said as_index added index)
