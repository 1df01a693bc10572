-- What an index names, its chains and its file depend on what stands under the named ids alone.
use Rattle.std.proofs.Common.{◌≡◌, ℕ, zero, suc, ◌≤◌, refl, sym, ◌∙◌, ap, subst, Bool, true, ◌&&◌, cond, List, [], ◌∷◌, ◌++◌, map, flat_map, find, take, Option, Some, None, option_map, option_and_then, unwrap_or, arith}
use Rattle.std.specs.Prelude.{is_some}
use Rattle.std.specs.List.{AllByRecursion as Each, list_all}
use Rattle.compact_values.specs.declared.ids.ExGuid.{ExGuid}
use Rattle.compact_values.specs.declared.ids.ExGuid.TheVariants.{Null, Id}
use Rattle.compact_values.specs.declared.ids.CellId.{CellId}
use Rattle.compact_values.specs.SameIds.{same_cell}
use Rattle.compact_values.proofs.SameIds.{cell-same}
use Rattle.doc_model.specs.declared.element.Element.{Element}
use Rattle.doc_model.specs.declared.element.Body.{Body}
use Rattle.doc_model.specs.declared.element.Name.{Name}
use Rattle.doc_model.specs.declared.element.CellMap.{CellMap}
use Rattle.doc_model.specs.declared.element.ManifestMap.{ManifestMap}
use Rattle.doc_model.specs.declared.element.RevisionMap.{RevisionMap}
use Rattle.doc_model.specs.declared.element.Root.{Root}
use Rattle.doc_model.specs.declared.element.Object.{Object}
use Rattle.doc_model.specs.declared.element.Content.{Content}
use Rattle.doc_model.specs.declared.element.Content.TheVariants.{Inline, Apart}
use Rattle.doc_model.specs.rules.FileObjects.{root_file}
use Rattle.doc_model.specs.rules.Files.{current_revision, root_chain, objects_of, own_bytes, as_file_object, file_objects, root_object, file_of_chain, file, group_objects, revision_objects}
use Rattle.doc_model.specs.rules.Finding.{first, find_element, said, firsts, Manifest, Mappings, as_index, as_storage, as_cell, as_revision, as_group, as_blob}
use Rattle.doc_model.specs.rules.Reached.{name, mapping_of, manifest_of, base_of, named_along, named_revisions, named_groups, named_blobs, each_once, reached, reached_from, enough, longest, chain, chains_end, revision_name, cell_name, storage_name, group_name, blob_name, groups_of, groups_by, blobs_of, blob_of, cells_of, same_cells, current_of, currents_of, names, names_below}
use Rattle.doc_model.proofs.EachItem.{each-front, each-back, each-map, each-flat, each-flat-map, each-both, each-as, map-same, flat-same, all-same}
use Rattle.doc_model.proofs.Firsts.{first-kept}
use Rattle.doc_model.proofs.Once.{once-each}

pub first-cell : (Q : CellMap → Type 0) (key : CellId) (cells : List CellMap) (c : CellMap) → Each Q (firsts same_cells cells)
    → find (λ m. same_cell m.cell key) cells ≡ Some c → Q c
first-cell Q key cells c h e =
    first-kept Q same_cells (λ m. same_cell m.cell key) (λ x k a s. subst (λ (z : CellId). same_cell z key ≡ true) (cell-same x.cell k.cell a) s) [] cells c refl h e

-- two lists of elements that have the same under some ids
module _ (a b : List Element) where
  abbrev pub Same : ExGuid → Type 0
  Same id = find_element b id ≡ find_element a id

  said-same : {X : Type 0} (k : Body → Option X) (id : ExGuid) → Same id → said k b id ≡ said k a id
  said-same k id s = ap (λ o. option_and_then (λ e. k e.body) o) s

  -- a revision whose name has the same
  manifest-same : (maps : List RevisionMap) (r : ExGuid) → Same (revision_name a maps r).id → manifest_of b maps r ≡ manifest_of a maps r
  manifest-same maps r s = by-mapping (mapping_of maps r) s
    where
      by-mapping : (o : Option RevisionMap) → Same (unwrap_or (option_map (λ m. m.target) o) r)
          → option_and_then (λ m. said as_revision b m.target) o ≡ option_and_then (λ m. said as_revision a m.target) o
      by-mapping None s = refl
      by-mapping (Some m) s = said-same as_revision m.target s

  module _ (maps : List RevisionMap) where
    abbrev SameRevision : ExGuid → Type 0
    SameRevision r = manifest_of b maps r ≡ manifest_of a maps r

    -- so have the revisions that are named along such ones, and their chains
    along-same : (n : ℕ) (r : ExGuid) → Each SameRevision (named_along a maps n r) → named_along b maps n r ≡ named_along a maps n r
    unfolding named_along
    along-same zero r h = refl
    along-same (suc n) Null h = refl
    along-same (suc n) (Id g v) h = rw h.0 (ap (λ rs. Id g v ∷ rs) (along-same n (base_of (manifest_of a maps (Id g v))) h.1))

    chain-same : (n f : ℕ) (r : ExGuid) → n ≤ f → Each SameRevision (named_along a maps f r) → chain b maps n r ≡ chain a maps n r
    unfolding chain named_along
    chain-same n f Null le h = refl
    chain-same zero f (Id g v) le h = refl
    chain-same (suc n) zero (Id g v) le h = absurd (omega arith)
    chain-same (suc n) (suc f) (Id g v) le h =
        rw h.0 (by-manifest (manifest_of a maps (Id g v)) (λ r rest. chain-same n f r (omega arith) rest) h.1)
      where
        by-manifest : (o : Option Manifest) → ((r : ExGuid) → Each SameRevision (named_along a maps f r) → chain b maps n r ≡ chain a maps n r)
            → Each SameRevision (named_along a maps f (base_of o))
            → option_and_then (λ m. option_map (λ rest. m ∷ rest) (chain b maps n m.base)) o ≡ option_and_then (λ m. option_map (λ rest. m ∷ rest) (chain a maps n m.base)) o
        by-manifest None later rest = refl
        by-manifest (Some m) later rest = ap (λ c. option_map (λ ms. m ∷ ms) c) (later m.base rest)

    -- what is named by the groups of the revisions that are named, is named by those of a chain
    pub chain-each : (G : ExGuid → Type 0) (n f : ℕ) (r : ExGuid) (ms : List Manifest) → n ≤ f
        → Each (λ x. Each G (groups_of a maps x)) (named_along a maps f r) → chain a maps n r ≡ Some ms → Each (λ m. Each G m.groups) ms
    unfolding chain named_along
    chain-each G n f Null ms le h e = let s : [] ≡ ms = cc in subst (Each (λ m. Each G m.groups)) s tt
    chain-each G zero f (Id g v) ms le h e = cc
    chain-each G (suc n) zero (Id g v) ms le h e = absurd (omega arith)
    chain-each G (suc n) (suc f) (Id g v) ms le h e =
        by-manifest (manifest_of a maps (Id g v)) h.0 h.1 e (λ r rest ns. chain-each G n f r ns (omega arith) rest)
      where
        by-rest : (m : Manifest) (o : Option (List Manifest)) → Each G m.groups → option_map (λ rest. m ∷ rest) o ≡ Some ms
            → ((ns : List Manifest) → o ≡ Some ns → Each (λ x. Each G x.groups) ns) → Each (λ x. Each G x.groups) ms
        by-rest m None own e later = cc
        by-rest m (Some ns) own e later = let s : m ∷ ns ≡ ms = cc in subst (Each (λ x. Each G x.groups)) s (own, later ns refl)

        by-manifest : (o : Option Manifest) → Each G (groups_by o) → Each (λ x. Each G (groups_of a maps x)) (named_along a maps f (base_of o))
            → option_and_then (λ m. option_map (λ rest. m ∷ rest) (chain a maps n m.base)) o ≡ Some ms
            → ((r : ExGuid) → Each (λ x. Each G (groups_of a maps x)) (named_along a maps f r) → (ns : List Manifest) → chain a maps n r ≡ Some ns → Each (λ x. Each G x.groups) ns)
            → Each (λ x. Each G x.groups) ms
        by-manifest None own rest e later = cc
        by-manifest (Some m) own rest e later = by-rest m (chain a maps n m.base) own e (later m.base rest)

  -- so have the objects of groups, and their own bytes
  abbrev SameGroup : ExGuid → Type 0
  SameGroup g = Same g × Each Same (blobs_of a g)

  abbrev SameOwn : Object → Type 0
  SameOwn o = as_file_object b o ≡ as_file_object a o

  content-same : (c : Content) → Each Same (blob_of c) → own_bytes b c ≡ own_bytes a c
  content-same (Inline bytes) h = refl
  content-same (Apart blob) h = said-same as_blob blob h.0

  own-same : (o : Object) → Each Same (blob_of o.content) → SameOwn o
  own-same o h = ap (λ (bytes : Option (List ℕ)). record { id = o.id; references = o.references; bytes = bytes }) (content-same o.content h)

  group-same : (g : ExGuid) → SameGroup g → group_objects b g ≡ group_objects a g
  group-same g h = ap (λ o. unwrap_or o []) (said-same as_group g h.0)

  objects-same : (ms : List Manifest) → Each (λ m. Each SameGroup m.groups) ms → objects_of b ms ≡ objects_of a ms
  objects-same ms h = flat-same _ _ ms (each-as (λ m. Each SameGroup m.groups) _ ms (λ m k. flat-same _ _ m.groups (each-as SameGroup _ m.groups group-same k)) h)

  group-own : (g : ExGuid) → SameGroup g → Each SameOwn (group_objects a g)
  group-own g h =
      each-as (λ o. Each Same (blob_of o.content)) SameOwn (group_objects a g) own-same
      (each-flat Same (λ o. blob_of o.content) (group_objects a g) h.1)

  objects-own : (ms : List Manifest) → Each (λ m. Each SameGroup m.groups) ms → Each SameOwn (objects_of a ms)
  objects-own ms h =
      each-flat-map SameOwn (revision_objects a) ms
      (each-as (λ m. Each SameGroup m.groups) _ ms
      (λ m k. each-flat-map SameOwn (group_objects a) m.groups (each-as SameGroup _ m.groups group-own k)) h)

  file-objects-same : (ms : List Manifest) → Each (λ m. Each SameGroup m.groups) ms → file_objects b ms ≡ file_objects a ms
  file-objects-same ms h =
      ap (map (as_file_object b)) (objects-same ms h) ∙ map-same (as_file_object b) (as_file_object a) (objects_of a ms) (objects-own ms h)

  -- a revision along which all is the same
  abbrev SameAlong : Mappings → ExGuid → Type 0
  SameAlong maps r =
      Each (SameRevision maps.revisions) (named_along a maps.revisions (enough maps.revisions) r)
      × Each (λ x. Each SameGroup (groups_of a maps.revisions x)) (named_along a maps.revisions (enough maps.revisions) r)

  abbrev SameCell : Mappings → CellMap → Type 0
  SameCell maps c = Same c.target × SameAlong maps (current_of a c)

  module _ (maps : Mappings) where
    abbrev N : Name → Type 0
    N n = Same n.id

    abbrev along : ExGuid → List ExGuid
    along = named_along a maps.revisions (enough maps.revisions)

    abbrev rs : List ExGuid
    rs = named_revisions a maps.revisions (currents_of a maps)

    abbrev gs : List ExGuid
    gs = named_groups a maps.revisions rs

    abbrev bs : List ExGuid
    bs = named_blobs a gs

    abbrev storage : List Name
    storage = map (storage_name a) (take 1 maps.manifests)

    abbrev cells : List Name
    cells = map (cell_name a) (cells_of maps)

    abbrev revisions : List Name
    revisions = map (revision_name a maps.revisions) rs

    abbrev groups : List Name
    groups = map (group_name a) gs

    abbrev blobs : List Name
    blobs = map (blob_name a) bs

    -- all that is named below an index is the same
    module _ (h : Each N (names_below a maps)) where
      upto_groups : Each N (storage ++ cells ++ revisions ++ groups)
      upto_groups = each-front N (storage ++ cells ++ revisions ++ groups) blobs h

      upto_revisions : Each N (storage ++ cells ++ revisions)
      upto_revisions = each-front N (storage ++ cells ++ revisions) groups upto_groups

      upto_cells : Each N (storage ++ cells)
      upto_cells = each-front N (storage ++ cells) revisions upto_revisions

      storage_same : Each (λ m. Same m.target) (take 1 maps.manifests)
      storage_same = each-map N (storage_name a) (take 1 maps.manifests) (each-front N storage cells upto_cells)

      targets_same : Each (λ c. Same c.target) (cells_of maps)
      targets_same = each-map N (cell_name a) (cells_of maps) (each-back N storage cells upto_cells)

      revisions_same : Each (SameRevision maps.revisions) rs
      revisions_same = each-as (λ r. Same (revision_name a maps.revisions r).id) (SameRevision maps.revisions) rs (λ r s. manifest-same maps.revisions r s)
          (each-map N (revision_name a maps.revisions) rs (each-back N (storage ++ cells) revisions upto_revisions))

      group_ids_same : Each Same gs
      group_ids_same = each-map N (group_name a) gs (each-back N (storage ++ cells ++ revisions) groups upto_groups)

      blobs_same : Each Same bs
      blobs_same = each-map N (blob_name a) bs (each-back N (storage ++ cells ++ revisions ++ groups) blobs h)

      groups_same : Each SameGroup gs
      groups_same = each-both Same (λ g. Each Same (blobs_of a g)) gs group_ids_same (each-flat Same (blobs_of a) gs (once-each Same (flat_map (blobs_of a) gs) blobs_same))

      abbrev GroupsAt : ExGuid → Type 0
      GroupsAt x = Each SameGroup (groups_of a maps.revisions x)

      along_each : Each (λ r. Each (SameRevision maps.revisions) (along r)) (currents_of a maps)
      along_each = each-flat (SameRevision maps.revisions) along (currents_of a maps) (once-each (SameRevision maps.revisions) (flat_map along (currents_of a maps)) revisions_same)

      along_same : Each (SameAlong maps) (currents_of a maps)
      along_same = each-both (λ r. Each (SameRevision maps.revisions) (along r)) (λ r. Each (λ x. Each SameGroup (groups_of a maps.revisions x)) (along r)) (currents_of a maps)
          along_each
          (each-flat GroupsAt along (currents_of a maps) (once-each GroupsAt (flat_map along (currents_of a maps))
          (each-flat SameGroup (groups_of a maps.revisions) rs (once-each SameGroup (flat_map (groups_of a maps.revisions) rs) groups_same))))

      cells_same : Each (SameCell maps) (cells_of maps)
      cells_same = each-both (λ c. Same c.target) (λ c. SameAlong maps (current_of a c)) (cells_of maps)
          targets_same (each-map (SameAlong maps) (current_of a) (cells_of maps) along_same)

      -- the current revisions of the cells are the same, and so is what they name
      currents_same : currents_of b maps ≡ currents_of a maps
      currents_same = map-same (current_of b) (current_of a) (cells_of maps)
          (each-as (λ c. Same c.target) (λ c. current_of b c ≡ current_of a c) (cells_of maps) (λ c s. ap (λ o. unwrap_or o Null) (said-same as_cell c.target s)) targets_same)

      rs_same : named_revisions b maps.revisions (currents_of b maps) ≡ rs
      rs_same =
          ap (named_revisions b maps.revisions) currents_same
          ∙ ap each_once (flat-same (named_along b maps.revisions (enough maps.revisions)) along (currents_of a maps)
          (each-as (λ r. Each (SameRevision maps.revisions) (along r)) (λ r. named_along b maps.revisions (enough maps.revisions) r ≡ along r) (currents_of a maps)
          (λ r s. along-same maps.revisions (enough maps.revisions) r s) along_each))

      gs_same : named_groups b maps.revisions (named_revisions b maps.revisions (currents_of b maps)) ≡ gs
      gs_same =
          ap (named_groups b maps.revisions) rs_same
          ∙ ap each_once (flat-same (groups_of b maps.revisions) (groups_of a maps.revisions) rs
          (each-as (SameRevision maps.revisions) (λ r. groups_of b maps.revisions r ≡ groups_of a maps.revisions r) rs (λ r s. ap groups_by s) revisions_same))

      bs_same : (gs' : List ExGuid) → gs' ≡ gs → named_blobs b gs' ≡ bs
      bs_same gs' e =
          ap (named_blobs b) e
          ∙ ap each_once (flat-same (blobs_of b) (blobs_of a) gs
          (each-as Same (λ g. blobs_of b g ≡ blobs_of a g) gs (λ g s. ap (λ o. flat_map (λ x. blob_of x.content) (unwrap_or o [])) (said-same as_group g s)) group_ids_same))

      named_same : {X : Type 0} (k : Body → Option X) (id : ExGuid) → Same id → name id (said k b id) ≡ name id (said k a id)
      named_same k id s = ap (λ o. name id o) (said-same k id s)

      below_same : names_below b maps ≡ names_below a maps
      below_same =
          let s : map (storage_name b) (take 1 maps.manifests) ≡ storage = map-same (storage_name b) (storage_name a) (take 1 maps.manifests)
          (each-as (λ m. Same m.target) (λ m. storage_name b m ≡ storage_name a m) (take 1 maps.manifests) (λ m t. named_same as_storage m.target t) storage_same) in
          let c : map (cell_name b) (cells_of maps) ≡ cells = map-same (cell_name b) (cell_name a) (cells_of maps)
          (each-as (λ x. Same x.target) (λ x. cell_name b x ≡ cell_name a x) (cells_of maps) (λ x t. named_same as_cell x.target t) targets_same) in
          let r : map (revision_name b maps.revisions) (named_revisions b maps.revisions (currents_of b maps)) ≡ revisions =
          ap (map (revision_name b maps.revisions)) rs_same
          ∙ map-same (revision_name b maps.revisions) (revision_name a maps.revisions) rs
          (each-as (SameRevision maps.revisions) (λ x. revision_name b maps.revisions x ≡ revision_name a maps.revisions x) rs
          (λ x t. ap (λ o. name (unwrap_or (option_map (λ m. m.target) (mapping_of maps.revisions x)) x) o) t) revisions_same) in
          let g : map (group_name b) (named_groups b maps.revisions (named_revisions b maps.revisions (currents_of b maps))) ≡ groups =
          ap (map (group_name b)) gs_same
          ∙ map-same (group_name b) (group_name a) gs (each-as Same (λ x. group_name b x ≡ group_name a x) gs (λ x t. named_same as_group x t) group_ids_same) in
          let w : map (blob_name b) (named_blobs b (named_groups b maps.revisions (named_revisions b maps.revisions (currents_of b maps)))) ≡ blobs =
          ap (map (blob_name b)) (bs_same (named_groups b maps.revisions (named_revisions b maps.revisions (currents_of b maps))) gs_same)
          ∙ map-same (blob_name b) (blob_name a) bs (each-as Same (λ x. blob_name b x ≡ blob_name a x) bs (λ x t. named_same as_blob x t) blobs_same) in
          five s c r g w
        where
          five : {A : Type 0} {s s' c c' r r' g g' w w' : List A} → s ≡ s' → c ≡ c' → r ≡ r' → g ≡ g' → w ≡ w'
              → (s ++ c ++ r ++ g ++ w) ≡ (s' ++ c' ++ r' ++ g' ++ w')
          five p q t u v = cc

      chains_same : chains_end b maps ≡ chains_end a maps
      chains_same = ap (list_all (λ r. is_some (chain b maps.revisions longest r))) currents_same ∙ all-same _ _ (currents_of a maps)
          (each-as (λ r. Each (SameRevision maps.revisions) (along r)) (λ r. is_some (chain b maps.revisions longest r) ≡ is_some (chain a maps.revisions longest r)) (currents_of a maps)
          (λ r s. ap (λ o. is_some o) (chain-same maps.revisions longest (enough maps.revisions) r (omega arith) s)) along_each)

      -- the current revision of the root cell is the same, and all along it
      abbrev SameCurrent : Option ExGuid → Option ExGuid → Type 0
      SameCurrent y x = (y ≡ x) × ((r : ExGuid) → x ≡ Some r → SameAlong maps r)

      no_current : SameCurrent None None
      no_current = (refl, λ r e. cc)

      cell_current : (o : Option CellMap) → ((c : CellMap) → o ≡ Some c → SameCell maps c)
          → SameCurrent (option_and_then (λ c. said as_cell b c.target) o) (option_and_then (λ c. said as_cell a c.target) o)
      cell_current None q = no_current
      cell_current (Some c) q =
          let s = q c refl in
          (said-same as_cell c.target s.0, λ r e. subst (SameAlong maps) (ap (λ o. unwrap_or o Null) e) s.1)

      abbrev by_root : List Element → Option Root → Option ExGuid
      by_root x o = option_and_then (λ root. option_and_then (λ c. said as_cell x c.target) (find (λ c. same_cell c.cell root.cell) maps.cells)) o

      abbrev by_storage : List Element → Option (List Root) → Option ExGuid
      by_storage x o = option_and_then (λ roots. by_root x (first roots)) o

      root_current : (o : Option Root) → SameCurrent (by_root b o) (by_root a o)
      root_current None = no_current
      root_current (Some root) =
          cell_current (find (λ c. same_cell c.cell root.cell) maps.cells) (λ c e. first-cell (SameCell maps) root.cell maps.cells c cells_same e)

      roots_current : (o : Option (List Root)) → SameCurrent (by_storage b o) (by_storage a o)
      roots_current None = no_current
      roots_current (Some roots) = root_current (first roots)

      manifest_current : (ms : List ManifestMap) → Each (λ m. Same m.target) (take 1 ms)
          → SameCurrent (option_and_then (λ m. by_storage b (said as_storage b m.target)) (first ms)) (option_and_then (λ m. by_storage a (said as_storage a m.target)) (first ms))
      manifest_current [] s = no_current
      manifest_current (m ∷ ms) s =
          subst (λ (o : Option (List Root)). SameCurrent (by_storage b o) (by_storage a (said as_storage a m.target))) (sym (said-same as_storage m.target s.0))
          (roots_current (said as_storage a m.target))

      current_same : SameCurrent (current_revision b maps) (current_revision a maps)
      current_same = manifest_current maps.manifests storage_same

      -- and so is its chain
      chain_of_current : option_and_then (chain b maps.revisions longest) (current_revision b maps) ≡ option_and_then (chain a maps.revisions longest) (current_revision a maps)
      chain_of_current = ap (option_and_then (chain b maps.revisions longest)) current_same.0 ∙ at (current_revision a maps) current_same.1
        where
          at : (o : Option ExGuid) → ((r : ExGuid) → o ≡ Some r → SameAlong maps r) → option_and_then (chain b maps.revisions longest) o ≡ option_and_then (chain a maps.revisions longest) o
          at None s = refl
          at (Some r) s = chain-same maps.revisions longest (enough maps.revisions) r (omega arith) (s r refl).0

      -- and so is the file
      abbrev by_chain : List Element → Option (List Manifest) → Option (List ℕ)
      by_chain x o = option_and_then (file_of_chain x) o

      chained_same : (r : ExGuid) → SameAlong maps r → by_chain b (chain b maps.revisions longest r) ≡ by_chain a (chain a maps.revisions longest r)
      chained_same r s =
          ap (by_chain b) (chain-same maps.revisions longest (enough maps.revisions) r (omega arith) s.0)
          ∙ at (chain a maps.revisions longest r) refl
        where
          at : (o : Option (List Manifest)) → chain a maps.revisions longest r ≡ o → by_chain b o ≡ by_chain a o
          at None e = refl
          at (Some ms) e = ap (λ os. option_and_then (root_file os) (root_object ms))
              (file-objects-same ms (chain-each maps.revisions SameGroup longest (enough maps.revisions) r ms (omega arith) s.1 e))

      below_index : by_chain b (option_and_then (chain b maps.revisions longest) (current_revision b maps)) ≡ by_chain a (option_and_then (chain a maps.revisions longest) (current_revision a maps))
      below_index =
          ap (λ o. by_chain b (option_and_then (chain b maps.revisions longest) o)) current_same.0 ∙ at (current_revision a maps) current_same.1
        where
          at : (o : Option ExGuid) → ((r : ExGuid) → o ≡ Some r → SameAlong maps r)
              → by_chain b (option_and_then (chain b maps.revisions longest) o) ≡ by_chain a (option_and_then (chain a maps.revisions longest) o)
          at None s = refl
          at (Some r) s = chained_same r (s r refl)

  -- where all that is named from an index is the same, the names, the ends of the chains and the file are
  abbrev AllSame : Option Mappings → Type 0
  AllSame o = Each (λ n. Same n.id) (unwrap_or (option_map (names_below a) o) [])

  names-under : (o : Option Mappings) → AllSame o → unwrap_or (option_map (names_below b) o) [] ≡ unwrap_or (option_map (names_below a) o) []
  names-under None s = refl
  names-under (Some maps) s = below_same maps s

  pub names-same : (index : ExGuid) → Each (λ n. Same n.id) (names a index) → names b index ≡ names a index
  names-same index h =
      ap (λ o. name index o ∷ unwrap_or (option_map (names_below b) o) []) (said-same as_index index h.0)
      ∙ ap (λ ns. name index (said as_index a index) ∷ ns) (names-under (said as_index a index) h.1)

  abbrev chain_under : List Element → Option Mappings → Option (List Manifest)
  chain_under x o = option_and_then (λ maps. option_and_then (chain x maps.revisions longest) (current_revision x maps)) o

  chains-under : (o : Option Mappings) → AllSame o → chain_under b o ≡ chain_under a o
  chains-under None s = refl
  chains-under (Some maps) s = chain_of_current maps s

  pub root-chain-same : (index : ExGuid) → Each (λ n. Same n.id) (names a index) → root_chain b index ≡ root_chain a index
  root-chain-same index h = ap (λ o. chain_under b o) (said-same as_index index h.0) ∙ chains-under (said as_index a index) h.1

  abbrev file_under : List Element → Option Mappings → Option (List ℕ)
  file_under x o = option_and_then (file_of_chain x) (option_and_then (λ maps. option_and_then (chain x maps.revisions longest) (current_revision x maps)) o)

  under-same : (o : Option Mappings) → AllSame o → file_under b o ≡ file_under a o
  under-same None s = refl
  under-same (Some maps) s = below_index maps s

  pub file-same : (index : ExGuid) → Each (λ n. Same n.id) (names a index) → file b index ≡ file a index
  file-same index h = ap (λ o. file_under b o) (said-same as_index index h.0) ∙ under-same (said as_index a index) h.1

  -- and so is what is reached, where the elements with the named ids are the same
  ends-under : (o : Option Mappings) → AllSame o → (t : Bool) (r r' : List Element) → r' ≡ r
      → option_and_then (λ maps. cond (t && chains_end b maps) (Some r') None) o ≡ option_and_then (λ maps. cond (t && chains_end a maps) (Some r) None) o
  ends-under None s t r r' e = refl
  ends-under (Some maps) s t r r' e =
      ap (λ c. cond (t && c) (Some r') None) (chains_same maps s) ∙ ap (λ (x : List Element). cond (t && chains_end a maps) (Some x) None) e

  pub reached-same : (index : ExGuid) → Each (λ n. Same n.id) (names a index) → reached_from b index ≡ reached_from a index → reached b index ≡ reached a index
  reached-same index h e =
      ap (option_and_then (λ maps. cond (list_all (λ n. n.found) (names b index) && chains_end b maps) (Some (reached_from b index)) None)) (said-same as_index index h.0)
      ∙ ap (λ (ns : List Name). option_and_then (λ maps. cond (list_all (λ n. n.found) ns && chains_end b maps) (Some (reached_from b index)) None) (said as_index a index)) (names-same index h)
      ∙ ends-under (said as_index a index) h.1 (list_all (λ n. n.found) (names a index)) (reached_from a index) (reached_from b index) e
