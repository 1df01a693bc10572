-- Elements that are added later change nothing of an index of which all is there.
use Rattle.std.proofs.Common.{◌≡◌, refl, Bool, true, false, cond, List, [], ◌∷◌, ◌++◌, map, take, Option, Some, None, option_map, option_and_then, unwrap_or}
use Rattle.std.specs.Prelude.{is_some}
use Rattle.std.specs.List.{AllByRecursion as Each}
use Rattle.compact_values.specs.declared.ids.ExGuid.{ExGuid}
use Rattle.compact_values.specs.SameIds.{same_id}
use Rattle.doc_model.specs.declared.element.Element.{Element}
use Rattle.doc_model.specs.declared.element.Body.{Body}
use Rattle.doc_model.specs.declared.element.Name.{Name}
use Rattle.doc_model.specs.declared.element.RevisionMap.{RevisionMap}
use Rattle.doc_model.specs.rules.Finding.{Mappings, find_element, said, as_index, as_storage, as_cell, as_group, as_blob, as_revision}
use Rattle.doc_model.specs.laws.Documents.{AllNamed, NamesStay, ChainStays, FileStays}
use Rattle.doc_model.specs.rules.Reached.{names, names_below, mapping_of, revision_name, storage_name, cell_name, group_name, blob_name, named_revisions, named_groups, named_blobs, cells_of, currents_of}
use Rattle.doc_model.proofs.Agree.{names-same, root-chain-same, file-same}
use Rattle.doc_model.proofs.EachItem.{each-as, each-append, each-both, all-each}

-- what is found stays so when elements are added at the end
found-append : (xs ys : List Element) (id : ExGuid) → is_some (find_element xs id) ≡ true → find_element (xs ++ ys) id ≡ find_element xs id
found-append [] ys id h = cc
found-append (x ∷ xs) ys id h = by-test (same_id x.id id) h (found-append xs ys id)
  where
    by-test : (b : Bool) → is_some (cond b (Some x) (find_element xs id)) ≡ true → (is_some (find_element xs id) ≡ true → find_element (xs ++ ys) id ≡ find_element xs id)
        → cond b (Some x) (find_element (xs ++ ys) id) ≡ cond b (Some x) (find_element xs id)
    by-test true h later = refl
    by-test false h later = later h

module _ (added : List Element) where
  -- a name that finds something names an element that is there
  abbrev pub IsThere : Name → Type 0
  IsThere n = n.found ≡ true → is_some (find_element added n.id) ≡ true

  said-there : {X : Type 0} (k : Body → Option X) (id : ExGuid) → is_some (said k added id) ≡ true → is_some (find_element added id) ≡ true
  said-there k id h = by-found (find_element added id) h
    where
      by-found : (o : Option Element) → is_some (option_and_then (λ e. k e.body) o) ≡ true → is_some o ≡ true
      by-found None h = h
      by-found (Some e) h = refl

  revision-there : (maps : List RevisionMap) (r : ExGuid) → IsThere (revision_name added maps r)
  revision-there maps r h = by-mapping (mapping_of maps r) h
    where
      by-mapping : (o : Option RevisionMap) → is_some (option_and_then (λ m. said as_revision added m.target) o) ≡ true
          → is_some (find_element added (unwrap_or (option_map (λ m. m.target) o) r)) ≡ true
      by-mapping None h = cc
      by-mapping (Some m) h = said-there as_revision m.target h

  all-mapped : {X : Type 0} (f : X → Name) → ((x : X) → IsThere (f x)) → (xs : List X) → Each IsThere (map f xs)
  all-mapped f h [] = tt
  all-mapped f h (x ∷ xs) = (h x, all-mapped f h xs)

  below-there : (maps : Mappings) → Each IsThere (names_below added maps)
  below-there maps =
      let rs = named_revisions added maps.revisions (currents_of added maps) in
      let gs = named_groups added maps.revisions rs in
      let storage = map (storage_name added) (take 1 maps.manifests) in
      let cells = map (cell_name added) (cells_of maps) in
      let revisions = map (revision_name added maps.revisions) rs in
      let groups = map (group_name added) gs in
      let bs = named_blobs added gs in
      each-append IsThere (storage ++ cells ++ revisions ++ groups) (map (blob_name added) bs)
      (each-append IsThere (storage ++ cells ++ revisions) groups
      (each-append IsThere (storage ++ cells) revisions
      (each-append IsThere storage cells (all-mapped (storage_name added) (λ m h. said-there as_storage m.target h) (take 1 maps.manifests))
      (all-mapped (cell_name added) (λ c h. said-there as_cell c.target h) (cells_of maps)))
      (all-mapped (revision_name added maps.revisions) (revision-there maps.revisions) rs))
      (all-mapped (group_name added) (λ g h. said-there as_group g h) gs))
      (all-mapped (blob_name added) (λ b h. said-there as_blob b h) bs)

  names-there : (index : ExGuid) → Each IsThere (names added index)
  names-there index = ((λ h. said-there as_index index h), by-index (said as_index added index))
    where
      by-index : (o : Option Mappings) → Each IsThere (unwrap_or (option_map (names_below added) o) [])
      by-index None = tt
      by-index (Some maps) = below-there maps

  -- so where all is found, each name has its element
  pub names-found : (index : ExGuid) → AllNamed added index → Each (λ n. is_some (find_element added n.id) ≡ true) (names added index)
  names-found index h =
      each-as (λ n. IsThere n × (n.found ≡ true)) (λ n. is_some (find_element added n.id) ≡ true) (names added index) (λ n t. t.0 t.1)
      (each-both IsThere (λ n. n.found ≡ true) (names added index) (names-there index) (all-each (λ n. n.found) (names added index) h))

  pub same-added : (more : List Element) (index : ExGuid) → AllNamed added index → Each (λ n. find_element (added ++ more) n.id ≡ find_element added n.id) (names added index)
  same-added more index h =
      each-as (λ n. is_some (find_element added n.id) ≡ true) (λ n. find_element (added ++ more) n.id ≡ find_element added n.id) (names added index)
      (λ n t. found-append added more n.id t) (names-found index h)

pub names-stay : NamesStay
names-stay added more index h = names-same added (added ++ more) index (same-added added more index h)

pub chain-stays : ChainStays
chain-stays added more index h = root-chain-same added (added ++ more) index (same-added added more index h)

pub file-stays : FileStays
file-stays added more index h = file-same added (added ++ more) index (same-added added more index h)
