-- Where all that an index names is there, the blobs of its file's objects are.
use Rattle.std.proofs.Common.{◌≡◌, ℕ, refl, sym, ◌∙◌, ap, subst, Bool, true, false, not, cond, List, [], ◌∷◌, ◌++◌, map, flat_map, find, take, Option, Some, None, option_map, option_and_then, unwrap_or, arith}
use Rattle.std.specs.Prelude.{is_some}
use Rattle.std.specs.List.{AllByRecursion as Each}
use Rattle.compact_values.specs.declared.ids.ExGuid.{ExGuid}
use Rattle.compact_values.specs.declared.ids.ExGuid.TheVariants.{Null}
use Rattle.compact_values.specs.SameIds.{same_cell}
use Rattle.doc_model.specs.declared.element.Element.{Element}
use Rattle.doc_model.specs.declared.element.Name.{Name}
use Rattle.doc_model.specs.declared.element.CellMap.{CellMap}
use Rattle.doc_model.specs.declared.element.ManifestMap.{ManifestMap}
use Rattle.doc_model.specs.declared.element.Root.{Root}
use Rattle.doc_model.specs.declared.element.Object.{Object}
use Rattle.doc_model.specs.declared.element.Content.{Content}
use Rattle.doc_model.specs.declared.element.Content.TheVariants.{Inline, Apart}
use Rattle.doc_model.specs.rules.FileObjects.{root_file}
use Rattle.doc_model.specs.rules.Files.{current_revision, root_chain, objects_of, own_bytes, as_file_object, root_object, file_of_chain, file, group_objects, revision_objects}
use Rattle.doc_model.specs.rules.Finding.{first, said, Manifest, Mappings, as_index, as_storage, as_cell, as_blob}
use Rattle.doc_model.specs.rules.Reached.{absent, named_along, named_revisions, named_groups, named_blobs, enough, longest, chain, revision_name, cell_name, storage_name, group_name, blob_name, groups_of, blobs_of, blob_of, cells_of, current_of, currents_of, names, names_below}
use Rattle.doc_model.proofs.Agree.{first-cell, chain-each}
use Rattle.doc_model.proofs.EachItem.{each-back, each-map, each-flat, each-flat-map, each-as, map-same}
use Rattle.doc_model.proofs.Once.{once-each}
use Rattle.file_nodes.specs.FileWalks as walks
use Rattle.plain_core.specs.Filing.{stored, file_with_bytes}

-- each name is found where none is absent
all-found : (ns : List Name) → option_map (λ n. n.id) (find (λ n. not n.found) ns) ≡ None → Each (λ n. n.found ≡ true) ns
all-found [] h = tt
all-found (n ∷ ns) h = by n.found refl h (all-found ns)
  where
    by : (b : Bool) → n.found ≡ b → option_map (λ m. m.id) (cond (not b) (Some n) (find (λ m. not m.found) ns)) ≡ None
        → (option_map (λ m. m.id) (find (λ m. not m.found) ns) ≡ None → Each (λ m. m.found ≡ true) ns) → Each (λ m. m.found ≡ true) (n ∷ ns)
    by true e h later = (e, later h)
    by false e h later = cc

module _ (added : List Element) where
  abbrev IsThere : ExGuid → Type 0
  IsThere blob = is_some (said as_blob added blob) ≡ true

  -- a group whose blobs are there, and a revision along which they are
  abbrev HasBlobs : ExGuid → Type 0
  HasBlobs group = Each IsThere (blobs_of added group)

  abbrev HasAlong : Mappings → ExGuid → Type 0
  HasAlong maps r = Each (λ x. Each HasBlobs (groups_of added maps.revisions x)) (named_along added maps.revisions (enough maps.revisions) r)

  module _ (maps : Mappings) (h : Each (λ n. n.found ≡ true) (names_below added maps)) where
    abbrev rs : List ExGuid
    rs = named_revisions added maps.revisions (currents_of added maps)

    abbrev gs : List ExGuid
    gs = named_groups added maps.revisions rs

    blobs-there : Each IsThere (flat_map (blobs_of added) gs)
    blobs-there =
        once-each IsThere (flat_map (blobs_of added) gs)
        (each-map (λ n. n.found ≡ true) (blob_name added) (named_blobs added gs)
        (each-back (λ n. n.found ≡ true)
        (map (storage_name added) (take 1 maps.manifests) ++ map (cell_name added) (cells_of maps) ++ map (revision_name added maps.revisions) rs ++ map (group_name added) gs)
        (map (blob_name added) (named_blobs added gs)) h))

    abbrev along : ExGuid → List ExGuid
    along = named_along added maps.revisions (enough maps.revisions)

    abbrev GroupsAt : ExGuid → Type 0
    GroupsAt x = Each HasBlobs (groups_of added maps.revisions x)

    currents-there : Each (HasAlong maps) (currents_of added maps)
    currents-there =
        each-flat GroupsAt along (currents_of added maps)
        (once-each GroupsAt (flat_map along (currents_of added maps))
        (each-flat HasBlobs (groups_of added maps.revisions) rs
        (once-each HasBlobs (flat_map (groups_of added maps.revisions) rs) (each-flat IsThere (blobs_of added) gs blobs-there))))

    cells-there : Each (λ c. HasAlong maps (current_of added c)) (cells_of maps)
    cells-there = each-map (HasAlong maps) (current_of added) (cells_of maps) currents-there

    -- so has the root cell's current revision
    cell-there : (o : Option CellMap) (r : ExGuid) → ((c : CellMap) → o ≡ Some c → HasAlong maps (current_of added c)) → option_and_then (λ c. said as_cell added c.target) o ≡ Some r
        → HasAlong maps r
    cell-there None r q e = cc
    cell-there (Some c) r q e = subst (HasAlong maps) (ap (λ o. unwrap_or o Null) e) (q c refl)

    abbrev by_root : Option Root → Option ExGuid
    by_root o = option_and_then (λ root. option_and_then (λ c. said as_cell added c.target) (find (λ c. same_cell c.cell root.cell) maps.cells)) o

    root-there : (o : Option Root) (r : ExGuid) → by_root o ≡ Some r → HasAlong maps r
    root-there None r e = cc
    root-there (Some root) r e =
        cell-there (find (λ c. same_cell c.cell root.cell) maps.cells) r
        (λ c f. first-cell (λ c. HasAlong maps (current_of added c)) root.cell maps.cells c cells-there f) e

    roots-there : (o : Option (List Root)) (r : ExGuid) → option_and_then (λ roots. by_root (first roots)) o ≡ Some r → HasAlong maps r
    roots-there None r e = cc
    roots-there (Some roots) r e = root-there (first roots) r e

    manifest-there : (o : Option ManifestMap) (r : ExGuid) → option_and_then (λ m. option_and_then (λ roots. by_root (first roots)) (said as_storage added m.target)) o ≡ Some r
        → HasAlong maps r
    manifest-there None r e = cc
    manifest-there (Some m) r e = roots-there (said as_storage added m.target) r e

    chain-there : (o : Option ExGuid) (ms : List Manifest) → ((r : ExGuid) → o ≡ Some r → HasAlong maps r) → option_and_then (chain added maps.revisions longest) o ≡ Some ms
        → Each (λ m. Each HasBlobs m.groups) ms
    chain-there None ms q e = cc
    chain-there (Some r) ms q e = chain-each added added maps.revisions HasBlobs longest (enough maps.revisions) r ms (omega arith) (q r refl) e

    root-chain-there : (ms : List Manifest) → option_and_then (chain added maps.revisions longest) (current_revision added maps) ≡ Some ms → Each (λ m. Each HasBlobs m.groups) ms
    root-chain-there ms e = chain-there (current_revision added maps) ms (λ r f. manifest-there (first maps.manifests) r f) e

  under-index : (o : Option Mappings) (ms : List Manifest) → Each (λ n. n.found ≡ true) (unwrap_or (option_map (names_below added) o) [])
      → option_and_then (λ maps. option_and_then (chain added maps.revisions longest) (current_revision added maps)) o ≡ Some ms → Each (λ m. Each HasBlobs m.groups) ms
  under-index None ms h e = cc
  under-index (Some maps) ms h e = root-chain-there maps h ms e

  -- an object whose blob is there is kept with its own bytes
  abbrev IsKept : Object → Type 0
  IsKept o = walks.as_file_object (stored added o) ≡ as_file_object added o

  is-itself : {X : Type 0} (o : Option X) (other : X) → is_some o ≡ true → Some (unwrap_or o other) ≡ o
  is-itself None other h = cc
  is-itself (Some x) other h = refl

  content-kept : (c : Content) → Each IsThere (blob_of c) → Some (unwrap_or (own_bytes added c) []) ≡ own_bytes added c
  content-kept (Inline bytes) h = refl
  content-kept (Apart blob) h = is-itself (said as_blob added blob) [] h.0

  object-kept : (o : Object) → Each IsThere (blob_of o.content) → IsKept o
  object-kept o h = ap (λ (bytes : Option (List ℕ)). record { id = o.id; references = o.references; bytes = bytes }) (content-kept o.content h)

  group-kept : (g : ExGuid) → HasBlobs g → Each IsKept (group_objects added g)
  group-kept g h =
      each-as (λ o. Each IsThere (blob_of o.content)) IsKept (group_objects added g) object-kept (each-flat IsThere (λ o. blob_of o.content) (group_objects added g) h)

  objects-kept : (ms : List Manifest) → Each (λ m. Each HasBlobs m.groups) ms → Each IsKept (objects_of added ms)
  objects-kept ms h =
      each-flat-map IsKept (revision_objects added) ms
      (each-as (λ m. Each HasBlobs m.groups) (λ m. Each IsKept (revision_objects added m)) ms
      (λ m k. each-flat-map IsKept (group_objects added) m.groups (each-as HasBlobs (λ g. Each IsKept (group_objects added g)) m.groups group-kept k)) h)

  map-twice : {X Y Z : Type 0} (f : Y → Z) (g : X → Y) (xs : List X) → map f (map g xs) ≡ map (λ x. f (g x)) xs
  map-twice f g [] = refl
  map-twice f g (x ∷ xs) = ap (λ ys. f (g x) ∷ ys) (map-twice f g xs)

  -- so the file is the one of the objects that are kept
  chain-kept : (ms : List Manifest) → Each (λ m. Each HasBlobs m.groups) ms → file_with_bytes added ms ≡ file_of_chain added ms
  chain-kept ms h =
      ap (λ os. option_and_then (root_file os) (root_object ms))
      (map-twice walks.as_file_object (stored added) (objects_of added ms)
      ∙ map-same (λ o. walks.as_file_object (stored added o)) (as_file_object added) (objects_of added ms) (objects-kept ms h))

  pub file-kept : (index : ExGuid) (ms : List Manifest) → absent added index ≡ None → root_chain added index ≡ Some ms → file_with_bytes added ms ≡ file added index
  file-kept index ms a e =
      chain-kept ms (under-index (said as_index added index) ms (all-found (names added index) a).1 e) ∙ sym (ap (option_and_then (file_of_chain added)) e)
