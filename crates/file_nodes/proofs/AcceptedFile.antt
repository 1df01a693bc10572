-- The put of a file that is cut is accepted.
use Rattle.std.proofs.Common.{◌≡◌, ℕ, ◌+◌, ◌≤◌, nat_lt, Bool, true, false, not, ◌&&◌, ◌||◌, List, [], ◌∷◌, ◌++◌, length, map, filter, Option, None, Some, refl, sym, ap, subst, inl, inr, ◌∙◌, arith}
use Rattle.std.specs.Prelude.{find, take, slice_get, is_some, is_none, option_map, unwrap_or}
use Rattle.std.specs.Int.{div_ceil}
use Rattle.std.proofs.lemmas.Bool.{cases_lt}
use Rattle.std.proofs.lemmas.Grind.{flat_map-append}
use Rattle.std.specs.List.{IsDistinct, flat_map, list_any}
use Rattle.std.proofs.lemmas.Bool.Decides.{nat_tests}
use Rattle.compact_values.specs.declared.guid.Guid.{Guid}
use Rattle.compact_values.specs.declared.ids.ExGuid.{ExGuid}
use Rattle.compact_values.specs.SameIds.{same_guid, same_id}
use Rattle.compact_values.proofs.SameIds.{guid-same, same-id, id-swap}
use Rattle.doc_model.specs.declared.element.Body.{Body}
use Rattle.doc_model.specs.declared.element.Body.TheVariants.{Group}
use Rattle.doc_model.specs.declared.element.Element.{Element}
use Rattle.doc_model.specs.declared.element.Name.{Name}
use Rattle.doc_model.specs.declared.element.Object.{Object}
use Rattle.doc_model.specs.declared.reply.Code.{Code}
use Rattle.doc_model.specs.rules.Files.{file}
use Rattle.doc_model.specs.rules.Finding.{Mappings, as_index, as_storage, as_cell, as_revision, as_group, find_element, said}
use Rattle.doc_model.specs.rules.Limits.{most_file, most_added_weight, most_reached_weight}
use Rattle.doc_model.specs.rules.Puts.{put, committed, commit_reasons, commit_refusal, grown, has_chains, has_invalid, is_foreign, is_invalid, is_new, too_large, too_much_added}
use Rattle.doc_model.specs.rules.Reached.{absent, blob_of, blob_name, cell_name, cells_of, currents_of, each_once, group_name, named_along, named_blobs, named_groups, named_revisions, names, names_below, reached_from, revision_name, storage_name, is_among}
use Rattle.doc_model.specs.rules.Effects.{Effect, first_refusal, unless}
use Rattle.doc_model.specs.rules.Weights.{weight, weight_of}
use Rattle.doc_model.proofs.AllFirst.{firsts-distinct}
use Rattle.doc_model.proofs.EachItem.{each-none}
use Rattle.doc_model.proofs.Reasons.{no-refusal}
use Rattle.doc_model.proofs.SameContents.{exact-body}
use Rattle.doc_model.proofs.SoundParts.{sum-filter}
use Rattle.file_nodes.specs.declared.chunking.Chunked.{Chunked}
use Rattle.file_nodes.specs.Chunking.{Chunk, leaf, node, numbered, objects_of, file_objects, leaves}
use Rattle.file_nodes.specs.Chunks.{id_of, index_body, storage_body, cell_body, revision_body, elements_round, chunked}
use Rattle.file_nodes.specs.ChunkLaws.{new_doc, upload, CutFileIsStored}
use Rattle.file_nodes.proofs.ChunkedFile.{mappings, roots, manifest, consecutive, said-at, chain_is, file-chunked}
use Rattle.file_nodes.proofs.ChunkWeight.{light-objects, light-elements}
use Rattle.file_nodes.specs.Pieces.{pieces}
use Rattle.file_nodes.proofs.ChunkLaws.{all-few, all-many}
use Rattle.file_nodes.proofs.FindLaws.{find-consecutive, distinct-consecutive}

pub not-above : (a b : ℕ) → b ≤ a → nat_lt a b ≡ false
not-above a b h = grind (arith, nat_tests)

neither : (a b : Bool) → a ≡ false → b ≡ false → (a || b) ≡ false
neither a b e f = rw (e, f)

-- ---- all that the index names is there

-- a name that finds something
abbrev found : Guid → ℕ → Name
found guid v = record { id = id_of guid v; found = true }

module _ (added : List Element) (objects : List Object) (guid : Guid) (first : ℕ)
    (index : said as_index added (id_of guid first) ≡ Some (mappings guid first))
    (storage : said as_storage added (id_of guid (first + 1)) ≡ Some roots)
    (cell : said as_cell added (id_of guid (first + 2)) ≡ Some (id_of guid (first + 5)))
    (revision : said as_revision added (id_of guid (first + 3)) ≡ Some (manifest guid first))
    (group : said as_group added (id_of guid (first + 4)) ≡ Some objects)
    (no_blobs : flat_map (λ o. blob_of o.content) objects ≡ []) where
  abbrev maps : Mappings
  maps = mappings guid first

  abbrev revision_id : ExGuid
  revision_id = id_of guid (first + 5)

  abbrev group_id : ExGuid
  group_id = id_of guid (first + 4)

  one_revision : named_revisions added maps.revisions (currents_of added maps) ≡ revision_id ∷ []
  unfolding named_along
  one_revision = rw (cell, same-id revision_id, revision) refl

  one_group : named_groups added maps.revisions (revision_id ∷ []) ≡ group_id ∷ []
  one_group = rw (same-id revision_id, revision) refl

  no_blob : named_blobs added (group_id ∷ []) ≡ []
  no_blob = ap (λ (o : Option (List Object)). each_once (flat_map (λ o. blob_of o.content) (unwrap_or o []) ++ [])) group ∙ ap (λ (bs : List ExGuid). each_once (bs ++ [])) no_blobs

  -- what is named, given the revisions, the groups and the blobs
  abbrev naming : List ExGuid → List ExGuid → List ExGuid → List Name
  naming rs gs bs =
      map (storage_name added) (take 1 maps.manifests) ++ map (cell_name added) (cells_of maps) ++ map (revision_name added maps.revisions) rs
      ++ map (group_name added) gs ++ map (blob_name added) bs

  each_found : naming (revision_id ∷ []) (group_id ∷ []) [] ≡ found guid (first + 1) ∷ found guid (first + 2) ∷ found guid (first + 3) ∷ found guid (first + 4) ∷ []
  each_found = rw (storage, cell, same-id revision_id, revision, group) refl

  below : names_below added (mappings guid first) ≡ found guid (first + 1) ∷ found guid (first + 2) ∷ found guid (first + 3) ∷ found guid (first + 4) ∷ []
  below =
      ap (λ (rs : List ExGuid). naming rs (named_groups added maps.revisions rs) (named_blobs added (named_groups added maps.revisions rs))) one_revision
      ∙ ap (λ (gs : List ExGuid). naming (revision_id ∷ []) gs (named_blobs added gs)) one_group
      ∙ ap (naming (revision_id ∷ []) (group_id ∷ [])) no_blob
      ∙ each_found

  pub nothing_absent : absent added (id_of guid first) ≡ None
  nothing_absent =
      rw index (
      ap (λ (ns : List Name). option_map (λ (n : Name). n.id) (find (λ (n : Name). not n.found) ns)) below
      )

  pub chains_are : has_chains added (id_of guid first) ≡ true
  chains_are = rw (index, cell, chain_is added objects guid first index storage cell revision group)

-- ---- no object of a file has its bytes in a blob

abbrev own_blobs : List Object → List ExGuid
own_blobs os = flat_map (λ o. blob_of o.content) os

none-numbered : {X : Type 0} (make : ℕ → X → Chunk) → ((v : ℕ) (x : X) → blob_of (make v x).object.content ≡ []) → (v : ℕ) (xs : List X)
    → own_blobs (objects_of (numbered make v xs)) ≡ []
none-numbered {X} make h v [] = refl
none-numbered {X} make h v (x ∷ xs) = rw (h v x, none-numbered make h (v + 1) xs)

none-named : (bytes : List ℕ) (guid : Guid) (v : ℕ) → length bytes ≤ 16777216 → own_blobs (file_objects bytes guid v) ≡ []
none-named bytes guid v short =
    let level = leaves bytes guid (v + 1) in
    let none : own_blobs (objects_of level) ≡ [] = none-numbered (leaf guid) (λ w p. refl) (v + 1) (pieces 65536 bytes) in
    elim (cases_lt 64 (div_ceil (length bytes) 65536)) [
      | inl many ↦
          let nodes = numbered (node 0x1F guid) (v + 1 + div_ceil (length bytes) 65536) (pieces 64 level) in
          let none_above : own_blobs (objects_of nodes) ≡ [] = none-numbered (node 0x1F guid) (λ w p. refl) (v + 1 + div_ceil (length bytes) 65536) (pieces 64 level) in
          ap own_blobs (all-many bytes guid (v + 1) many short)
          ∙ flat_map-append (λ (o : Object). blob_of o.content) (objects_of level) (objects_of nodes)
          ∙ ap (λ (l : List ExGuid). l ++ own_blobs (objects_of nodes)) none
          ∙ none_above
      | inr few ↦ ap own_blobs (all-few bytes guid (v + 1) few) ∙ none
    ]

-- ---- what is added is what is sent

all-new : (es : List Element) → filter (is_new []) es ≡ es
all-new [] = refl
all-new (e ∷ es) = ap (λ (l : List Element). e ∷ l) (all-new es)

module _ (objects : List Object) (guid : Guid) (first : ℕ) where
  abbrev elements : List Element
  elements = elements_round objects guid first

  distinct_ids : IsDistinct same_id (map (λ e. e.id) elements)
  distinct_ids = subst (IsDistinct same_id) (sym (consecutive objects guid first)) (distinct-consecutive guid first 5)

  pub all_fresh : grown [] elements ≡ elements
  all_fresh = ap (filter (is_new [])) (firsts-distinct same_id id-swap (λ (e : Element). e.id) elements distinct_ids) ∙ all-new elements

  -- ---- no id is foreign, and each element is the one with its id

  module _ (own : Guid) (drawn : ℕ) (are_drawn : guid ≡ own → first + 4 ≤ drawn) where
    not_foreign : (v : ℕ) → v ≤ first + 4 → is_foreign own drawn (id_of guid v) ≡ false
    not_foreign v h = by (same_guid guid own) refl
      where
        by : (b : Bool) → same_guid guid own ≡ b → (b && nat_lt drawn v) ≡ false
        by true e = not-above drawn v (omega (arith, are_drawn (guid-same guid own e)))
        by false e = refl

    valid_at : (k v : ℕ) (body : Body) → v ≡ first + k → k ≤ 4 → slice_get elements k ≡ Some (record { id = id_of guid v; body = body })
        → is_invalid own drawn elements (record { id = id_of guid v; body = body }) ≡ false
    valid_at k v body e few at =
        let here : find_element elements (id_of guid v) ≡ Some (record { id = id_of guid v; body = body })
        = find-consecutive (λ (x : Element). x.id) guid first v k elements (consecutive objects guid first) e ∙ at in
        rw (not_foreign v (omega arith), here, exact-body.same body)

    all_valid : has_invalid own drawn [] elements ≡ false
    all_valid =
        ap (λ (l : List Element). list_any (is_invalid own drawn l) elements) all_fresh
        ∙ each-none (is_invalid own drawn elements) elements (
          valid_at 0 first (index_body guid first) (omega arith) (omega arith) refl,
          (
            valid_at 1 (first + 1) storage_body refl (omega arith) refl,
            (
              valid_at 2 (first + 2) (cell_body guid first) refl (omega arith) refl,
              (
                valid_at 3 (first + 3) (revision_body guid first) refl (omega arith) refl,
                (valid_at 4 (first + 4) (Group objects) refl (omega arith) refl, tt),
              ),
            ),
          ),
        )

    -- ---- so no reason holds

    module _ (bytes : List ℕ) (short : length bytes ≤ most_file) (light : weight_of elements ≤ most_reached_weight)
        (file_is : file elements (id_of guid first) ≡ Some bytes) (no_blobs : own_blobs objects ≡ []) where
      index_said : said as_index elements (id_of guid first) ≡ Some (mappings guid first)
      index_said = said-at objects guid first as_index 0 first (omega arith)

      storage_said : said as_storage elements (id_of guid (first + 1)) ≡ Some roots
      storage_said = said-at objects guid first as_storage 1 (first + 1) refl

      cell_said : said as_cell elements (id_of guid (first + 2)) ≡ Some (id_of guid (first + 5))
      cell_said = said-at objects guid first as_cell 2 (first + 2) refl

      revision_said : said as_revision elements (id_of guid (first + 3)) ≡ Some (manifest guid first)
      revision_said = said-at objects guid first as_revision 3 (first + 3) refl

      group_said : said as_group elements (id_of guid (first + 4)) ≡ Some objects
      group_said = said-at objects guid first as_group 4 (first + 4) refl

      not_too_much : too_much_added elements ≡ false
      not_too_much = neither _ _ refl (not-above most_added_weight (weight_of elements) (omega arith))

      all_there : is_some (absent elements (id_of guid first)) ≡ false
      all_there = ap is_some (nothing_absent elements objects guid first index_said storage_said cell_said revision_said group_said no_blobs)

      has_file : (not (has_chains elements (id_of guid first)) || is_none (file elements (id_of guid first))) ≡ false
      has_file =
          neither (not (has_chains elements (id_of guid first))) (is_none (file elements (id_of guid first)))
          (ap not (chains_are elements objects guid first index_said storage_said cell_said revision_said group_said no_blobs)) (ap is_none file_is)

      not_too_large : too_large elements (id_of guid first) ≡ false
      not_too_large =
          let ids = map (λ n. n.id) (names elements (id_of guid first)) in
          let fewer = sum-filter weight (λ (e : Element). is_among ids e.id) elements in
          neither (nat_lt most_file (length (unwrap_or (file elements (id_of guid first)) []))) (nat_lt most_reached_weight (weight_of (reached_from elements (id_of guid first))))
          (ap (λ (o : Option (List ℕ)). nat_lt most_file (length (unwrap_or o []))) file_is ∙ not-above most_file (length bytes) short)
          (not-above most_reached_weight (weight_of (reached_from elements (id_of guid first))) (omega (arith, fewer, light)))

      pub not_refused : (used moment : ℕ)
          → (let c : Chunked = record { index = id_of guid first; elements = elements; used = used } in commit_refusal (new_doc own drawn) moment (upload c)) ≡ None
      not_refused used moment =
          let c : Chunked = record { index = id_of guid first; elements = elements; used = used } in
          ap (λ (added : List Element). first_refusal (commit_reasons (new_doc own drawn) moment (upload c) elements added)) all_fresh
          ∙ no-refusal (commit_reasons (new_doc own drawn) moment (upload c) elements elements)
          (refl, (all_valid, (not_too_much, (refl, (refl, (all_there, (has_file, (not_too_large, tt))))))))

-- ---- the law

pub cut-file-is-stored : CutFileIsStored
cut-file-is-stored bytes user guid own first drawn moment short are_drawn =
    let objects = file_objects bytes guid (first + 6) in
    let c = chunked bytes guid first in
    let p = upload c in
    let doc = new_doc own drawn in
    let light : weight_of c.elements ≤ most_reached_weight = omega (arith, light-elements objects guid first, light-objects bytes guid (first + 6) short) in
    let none : commit_refusal doc moment p ≡ None
    = not_refused objects guid first own drawn (λ e. omega (arith, are_drawn e)) bytes short light (file-chunked bytes guid first short) (none-named bytes guid (first + 6) short) c.used moment in
    let done : put doc moment user p ≡ committed doc moment user p = ap (λ (o : Option Code). unless o doc (committed doc moment user p)) none in
    record {
      no_refusal = none;
      commits = done;
      content = ap (λ (t : Effect). file t.doc.added p.index) done ∙ ap (λ (l : List Element). file l p.index) (all_fresh objects guid first) ∙ file-chunked bytes guid first short;
    }
