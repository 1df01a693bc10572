-- What is read of an element is what its objects say, or where the first of them that isn't in its form starts.
use Rattle.std.proofs.Common.{◌≡◌, ℕ, true, List, [], ◌∷◌, ◌++◌, Option, Some, None, Result, Ok, Err, inl, inr, refl, sym, ap, subst, ◌∙◌, append_assoc, arith}
use Rattle.std.specs.Prelude.{is_some, ◌||◌, if◌then◌else◌}
use Rattle.std.specs.List.{AllByRecursion, flat_map}
use Rattle.std.proofs.lemmas.Bool.Decides.{eqb_tells}
use Rattle.std.proofs.lemmas.List.{append-nil}
use Rattle.compact_values.specs.declared.ids.ExGuid.{ExGuid}
use Rattle.compact_values.specs.declared.ids.Serial.{Serial}
use Rattle.compact_values.proofs.LittleEndian.{IsBytes}
use Rattle.stream_objects.specs.declared.tree.Tree.{Tree}
use Rattle.stream_objects.specs.declared.tree.Tree.TheViews.{out-Tree}
use Rattle.stream_objects.specs.Objects.{HasOne, Each, kind_of, is_kind, start_of, children_of}
use Rattle.stream_objects.specs.ObjectFields.{single}
use Rattle.stream_objects.specs.Gathering.{and_then}
use Rattle.stream_objects.proofs.Broken.{Judges, all-append, broken_left, broken_right}
use Rattle.stream_objects.proofs.Children.{single_some, single_none}
use Rattle.compact_values.specs.Taking.{take_guid, take_exguid, take_both}
use Rattle.wire_kinds.specs.Row.{IsOf, row_at}
use Rattle.doc_model.specs.readers.ElementCodes.{manifest_code, cell_code, revision_code, root_code, revision_root_code}
use Rattle.doc_model.specs.wire.ElementRows.{manifest_mapping, cell_mapping, revision_mapping, schema_guid, manifest_root, current_revision, revision_manifest, revision_root, group_reference}
use Rattle.doc_model.specs.wire.ElementObjects.{ElementFields, PackageFields, BlobContent}
use Rattle.doc_model.specs.wire.Elements.{SaysBody, IsElement, IsPackage}
use Rattle.doc_model.specs.readers.ElementSites.{Site, element, has_place, sites_behind, element_row, element_sites, package_sites, KindInForm, InOwnForm, site_start}
use Rattle.doc_model.specs.declared.element.Element.{Element}
use Rattle.doc_model.specs.declared.element.Body.{Body}
use Rattle.doc_model.specs.declared.element.Body.TheVariants.{Index, Storage, Cell, Revision, Group, Blob}
use Rattle.data_elements.specs.Rows.{package_row, blob_row}
use Rattle.data_elements.specs.Checking.{check_at, unless_broken, collect, only}
use Rattle.data_elements.specs.Reading.{index_at, storage_at, cell_at, revision_at, blob_at, body_at, element_of, element_with, element_at, elements_from, package_with, package_at}
use Rattle.data_elements.proofs.RowLaws.{element_found, element_again, package_found, package_again, root_reads, revision_root_reads, id_reads, schema_reads, revision_map_reads, cell_map_reads, manifest_map_reads, head_reads, blob_again, ok_manifest_root, ok_revision_root, ok_current, ok_schema, ok_revision_mapping, ok_cell_mapping, ok_manifest_mapping, ok_group, ok_revision, ok_blob}
use Rattle.data_elements.proofs.CheckLaws.{placed, collected, again_collect, again_only, only_of, JudgesBody, by_children, not_itself, fine, each_ok, one_ok, either_ok, check_none}
use Rattle.data_elements.proofs.GroupLaws.{judges_group, again_group}

module _ (input : List ℕ) (fits : IsBytes input) where
  abbrev Parts : Site → Type 0
  Parts = InOwnForm input

  -- ---- bodies

  index_form : (t : Tree) → KindInForm input 1 t
  index_form t = record { known = inl refl; storage = λ e. absurd (omega arith); cell = λ e. absurd (omega arith); revision = λ e. absurd (omega arith); group = λ e. absurd (omega arith); blob = λ e. absurd (omega arith) }

  storage_form : (t : Tree) → HasOne 0x0C t → KindInForm input 2 t
  storage_form t h = record { known = inr (inl refl); storage = λ e. h; cell = λ e. absurd (omega arith); revision = λ e. absurd (omega arith); group = λ e. absurd (omega arith); blob = λ e. absurd (omega arith) }

  cell_form : (t : Tree) → HasOne 0x0B t → KindInForm input 3 t
  cell_form t h = record { known = inr (inr (inl refl)); storage = λ e. absurd (omega arith); cell = λ e. h; revision = λ e. absurd (omega arith); group = λ e. absurd (omega arith); blob = λ e. absurd (omega arith) }

  revision_form : (t : Tree) → HasOne 0x1A t → KindInForm input 4 t
  revision_form t h = record { known = inr (inr (inr (inl refl))); storage = λ e. absurd (omega arith); cell = λ e. absurd (omega arith); revision = λ e. h; group = λ e. absurd (omega arith); blob = λ e. absurd (omega arith) }

  blob_form : (t : Tree) → HasOne 0x02 t → KindInForm input 10 t
  blob_form t h = record { known = inr (inr (inr (inr (inr refl)))); storage = λ e. absurd (omega arith); cell = λ e. absurd (omega arith); revision = λ e. absurd (omega arith); group = λ e. absurd (omega arith); blob = λ e. h }

  place_11 : (c : Tree) → kind_of c ≡ 0x11 → has_place 1 c ≡ true
  place_11 c e = rw e refl

  place_0E : (c : Tree) → kind_of c ≡ 0x0E → has_place 1 c ≡ true
  place_0E c e = rw e refl

  place_0D : (c : Tree) → kind_of c ≡ 0x0D → has_place 1 c ≡ true
  place_0D c e = rw e refl

  place_0C : (c : Tree) → kind_of c ≡ 0x0C → has_place 2 c ≡ true
  place_0C c e = rw e refl

  place_07 : (c : Tree) → kind_of c ≡ 0x07 → has_place 2 c ≡ true
  place_07 c e = rw e refl

  place_0B : (c : Tree) → kind_of c ≡ 0x0B → has_place 3 c ≡ true
  place_0B c e = rw e refl

  place_1A : (c : Tree) → kind_of c ≡ 0x1A → has_place 4 c ≡ true
  place_1A c e = rw e refl

  place_0A : (c : Tree) → kind_of c ≡ 0x0A → has_place 4 c ≡ true
  place_0A c e = rw e refl

  place_19 : (c : Tree) → kind_of c ≡ 0x19 → has_place 4 c ≡ true
  place_19 c e = rw e refl

  place_02 : (c : Tree) → kind_of c ≡ 0x02 → has_place 10 c ≡ true
  place_02 c e = rw e refl

  judges_index : (t : Tree) (id : ExGuid) (serial : Serial) → ElementFields input t id serial 1 → JudgesBody input fits t 1 (index_at input t)
  unfolding index_at
  judges_index t id serial has = by_children input fits t id serial 1 has (index_form t) _ (λ own.
      let cs = (out-Tree t).children in
      let h = placed input fits 1 cs own in
      let m = collected input fits 1 0x11 (row_at manifest_code.take) (IsOf manifest_mapping input) place_11 (λ c e l. let v = l.manifest_mapping e in (v.0, manifest_map_reads.again input fits c v.0 v.1, v.1)) cs h [] in
      let c = collected input fits 1 0x0E (row_at cell_code.take) (IsOf cell_mapping input) place_0E (λ c e l. let v = l.cell_mapping e in (v.0, cell_map_reads.again input fits c v.0 v.1, v.1)) cs h [] in
      let r = collected input fits 1 0x0D (row_at revision_code.take) (IsOf revision_mapping input) place_0D (λ c e l. let v = l.revision_mapping e in (v.0, revision_map_reads.again input fits c v.0 v.1, v.1)) cs h [] in
      (Index m.values c.values r.values, rw (m.read, c.read, r.read) refl, (refl, m.each, c.each, r.each)))

  judges_storage : (t : Tree) (id : ExGuid) (serial : Serial) → ElementFields input t id serial 2 → JudgesBody input fits t 2 (storage_at input t)
  unfolding storage_at
  judges_storage t id serial has = go (single (children_of 0x0C t)) refl where
    next : Result Body ℕ
    next = and_then (only 0x0C (row_at take_guid) input t) (λ s. and_then (collect 0x07 (row_at root_code.take) input t) (λ r. Ok (Storage s r)))

    go : (s : Option Tree) → single (children_of 0x0C t) ≡ s → JudgesBody input fits t 2 (if is_some s then unless_broken (check_at input 2 (out-Tree t).children) next else Err (start_of t))
    go None e = not_itself input fits t id serial 2 has (λ f. single_none (children_of 0x0C t) e (f.storage refl).0 (f.storage refl).1)
    go (Some c) e = by_children input fits t id serial 2 has (storage_form t (c, single_some (children_of 0x0C t) c e)) next (λ own.
        let one = single_some (children_of 0x0C t) c e in
        let cs = (out-Tree t).children in
        let h = placed input fits 2 cs own in
        let s = collected input fits 2 0x0C (row_at take_guid) (IsOf schema_guid input) place_0C (λ c e l. let v = l.schema e in (v.0, schema_reads.again input fits c v.0 v.1, v.1)) cs h [] in
        let o = only_of input fits 0x0C (row_at take_guid) (IsOf schema_guid input) t c one (schema_reads.again input fits) s.values (subst (λ (l : List Tree). Each (IsOf schema_guid input) l s.values) one s.each) in
        let r = collected input fits 2 0x07 (row_at root_code.take) (IsOf manifest_root input) place_07 (λ c e l. let v = l.manifest_root e in (v.0, root_reads.again input fits c v.0 v.1, v.1)) cs h [] in
        (Storage o.0 r.values, rw (o.2, r.read) refl, (refl, o.1, r.each)))

  judges_cell : (t : Tree) (id : ExGuid) (serial : Serial) → ElementFields input t id serial 3 → JudgesBody input fits t 3 (cell_at input t)
  unfolding cell_at
  judges_cell t id serial has = go (single (children_of 0x0B t)) refl where
    next : Result Body ℕ
    next = and_then (only 0x0B (row_at take_exguid) input t) (λ c. Ok (Cell c))

    go : (s : Option Tree) → single (children_of 0x0B t) ≡ s → JudgesBody input fits t 3 (if is_some s then unless_broken (check_at input 3 (out-Tree t).children) next else Err (start_of t))
    go None e = not_itself input fits t id serial 3 has (λ f. single_none (children_of 0x0B t) e (f.cell refl).0 (f.cell refl).1)
    go (Some c) e = by_children input fits t id serial 3 has (cell_form t (c, single_some (children_of 0x0B t) c e)) next (λ own.
        let one = single_some (children_of 0x0B t) c e in
        let cs = (out-Tree t).children in
        let h = placed input fits 3 cs own in
        let s = collected input fits 3 0x0B (row_at take_exguid) (IsOf current_revision input) place_0B (λ c e l. let v = l.current e in (v.0, id_reads.again input fits c v.0 v.1, v.1)) cs h [] in
        let o = only_of input fits 0x0B (row_at take_exguid) (IsOf current_revision input) t c one (id_reads.again input fits) s.values (subst (λ (l : List Tree). Each (IsOf current_revision input) l s.values) one s.each) in
        (Cell o.0, rw o.2 refl, (refl, o.1)))

  judges_revision : (t : Tree) (id : ExGuid) (serial : Serial) → ElementFields input t id serial 4 → JudgesBody input fits t 4 (revision_at input t)
  unfolding revision_at
  judges_revision t id serial has = go (single (children_of 0x1A t)) refl where
    next : Result Body ℕ
    next = and_then (only 0x1A (row_at (take_both take_exguid take_exguid)) input t) (λ h. and_then (collect 0x0A (row_at revision_root_code.take) input t) (λ r. and_then (collect 0x19 (row_at take_exguid) input t) (λ g. Ok (Revision h.0 h.1 r g))))

    go : (s : Option Tree) → single (children_of 0x1A t) ≡ s → JudgesBody input fits t 4 (if is_some s then unless_broken (check_at input 4 (out-Tree t).children) next else Err (start_of t))
    go None e = not_itself input fits t id serial 4 has (λ f. single_none (children_of 0x1A t) e (f.revision refl).0 (f.revision refl).1)
    go (Some c) e = by_children input fits t id serial 4 has (revision_form t (c, single_some (children_of 0x1A t) c e)) next (λ own.
        let one = single_some (children_of 0x1A t) c e in
        let cs = (out-Tree t).children in
        let h = placed input fits 4 cs own in
        let s = collected input fits 4 0x1A (row_at (take_both take_exguid take_exguid)) (IsOf revision_manifest input) place_1A (λ c e l. let v = l.revision e in (v.0, head_reads.again input fits c v.0 v.1, v.1)) cs h [] in
        let o = only_of input fits 0x1A (row_at (take_both take_exguid take_exguid)) (IsOf revision_manifest input) t c one (head_reads.again input fits) s.values (subst (λ (l : List Tree). Each (IsOf revision_manifest input) l s.values) one s.each) in
        let r = collected input fits 4 0x0A (row_at revision_root_code.take) (IsOf revision_root input) place_0A (λ c e l. let v = l.revision_root e in (v.0, revision_root_reads.again input fits c v.0 v.1, v.1)) cs h [] in
        let g = collected input fits 4 0x19 (row_at take_exguid) (IsOf group_reference input) place_19 (λ c e l. let v = l.group e in (v.0, id_reads.again input fits c v.0 v.1, v.1)) cs h [] in
        (Revision o.0.0 o.0.1 r.values g.values, rw (o.2, r.read, g.read) refl, (refl, o.1, r.each, g.each)))

  judges_blob : (t : Tree) (id : ExGuid) (serial : Serial) → ElementFields input t id serial 10 → JudgesBody input fits t 10 (blob_at input t)
  unfolding blob_at
  judges_blob t id serial has = go (single (children_of 0x02 t)) refl where
    next : Result Body ℕ
    next = and_then (only 0x02 blob_row input t) (λ b. Ok (Blob b))

    go : (s : Option Tree) → single (children_of 0x02 t) ≡ s → JudgesBody input fits t 10 (if is_some s then unless_broken (check_at input 10 (out-Tree t).children) next else Err (start_of t))
    go None e = not_itself input fits t id serial 10 has (λ f. single_none (children_of 0x02 t) e (f.blob refl).0 (f.blob refl).1)
    go (Some c) e = by_children input fits t id serial 10 has (blob_form t (c, single_some (children_of 0x02 t) c e)) next (λ own.
        let one = single_some (children_of 0x02 t) c e in
        let cs = (out-Tree t).children in
        let h = placed input fits 10 cs own in
        let s = collected input fits 10 0x02 blob_row (BlobContent input) place_02 (λ c e l. let v = l.blob e in (v.0, blob_again input fits c v.0 v.1, v.1)) cs h [] in
        let o = only_of input fits 0x02 blob_row (BlobContent input) t c one (blob_again input fits) s.values (subst (λ (l : List Tree). Each (BlobContent input) l s.values) one s.each) in
        (Blob o.0, rw o.2 refl, (refl, o.1)))

  pub judges_body : (t : Tree) (id : ExGuid) (serial : Serial) (kind : ℕ) → ElementFields input t id serial kind → JudgesBody input fits t kind (body_at input kind t)
  unfolding body_at
  judges_body t id serial kind has =
      elim (eqb_tells kind 1) [
        | inl a ↦ subst (λ (k : ℕ). JudgesBody input fits t k (body_at input k t)) (sym a.1) (judges_index t id serial (subst (ElementFields input t id serial) a.1 has))
        | inr a ↦
            elim (eqb_tells kind 2) [
              | inl b ↦ subst (λ (k : ℕ). JudgesBody input fits t k (body_at input k t)) (sym b.1) (judges_storage t id serial (subst (ElementFields input t id serial) b.1 has))
              | inr b ↦
                  elim (eqb_tells kind 3) [
                    | inl c ↦ subst (λ (k : ℕ). JudgesBody input fits t k (body_at input k t)) (sym c.1) (judges_cell t id serial (subst (ElementFields input t id serial) c.1 has))
                    | inr c ↦
                        elim (eqb_tells kind 4) [
                          | inl d ↦ subst (λ (k : ℕ). JudgesBody input fits t k (body_at input k t)) (sym d.1) (judges_revision t id serial (subst (ElementFields input t id serial) d.1 has))
                          | inr d ↦
                              elim (eqb_tells kind 5) [
                                | inl f ↦ subst (λ (k : ℕ). JudgesBody input fits t k (body_at input k t)) (sym f.1) (judges_group input fits t id serial (subst (ElementFields input t id serial) f.1 has))
                                | inr f ↦
                                    elim (eqb_tells kind 10) [
                                      | inl g ↦ subst (λ (k : ℕ). JudgesBody input fits t k (body_at input k t)) (sym g.1) (judges_blob t id serial (subst (ElementFields input t id serial) g.1 has))
                                      | inr g ↦
                                          rw (a.0, b.0, c.0, d.0, f.0, g.0)
                                          (not_itself input fits t id serial kind has (λ k. elim k.known [ inl e ↦ a.1 e | inr (inl e) ↦ b.1 e | inr (inr (inl e)) ↦ c.1 e | inr (inr (inr (inl e))) ↦ d.1 e | inr (inr (inr (inr (inl e)))) ↦ f.1 e | inr (inr (inr (inr (inr e)))) ↦ g.1 e ]))
                                    ]
                              ]
                        ]
                  ]
            ]
      ]

  -- ---- elements

  abbrev JudgesElement : Tree → Result Element ℕ → Type 0
  JudgesElement t = Judges Parts site_start (IsElement input t) (element_sites input t)

  abbrev JudgesWith : Tree → Option (ExGuid × (Serial × ℕ)) → Result Element ℕ → Type 0
  JudgesWith t o = Judges Parts site_start (IsElement input t) (element t ∷ sites_behind o (out-Tree t).children)

  judges_element : (t : Tree) → JudgesElement t (element_at input t)
  unfolding element_at
  judges_element t = go (element_row input t) refl where
    made : (f : ExGuid × (Serial × ℕ)) → ElementFields input t f.0 f.1.0 f.1.1 → (r : Result Body ℕ) → JudgesBody input fits t f.1.1 r → JudgesWith t (Some f) (element_of f.0 r)
    made f h (Ok body) j = ((f.1.0, (f.1.1, h, j.0)), j.1)
    made f h (Err place) j = j

    go : (o : Option (ExGuid × (Serial × ℕ))) → element_row input t ≡ o → JudgesWith t o (element_with input t o)
    go (Some f) e = let h = element_found input fits t f e in made f h (body_at input f.1.1 t) (judges_body t f.0 f.1.0 f.1.1 h)
    go None e = inl (λ own. let some = element_again input fits t (own.0, (own.1, own.2)) own.3 in absurd cc, refl)

  -- what was read of these elements behind others
  record Behind (ts : List Tree) (es all : List Element) : Type 0 where
    new : List Element
    all_are : all ≡ es ++ new
    each : Each (IsElement input) ts new

  abbrev JudgesElements : List Tree → List Element → Result (List Element) ℕ → Type 0
  JudgesElements ts es = Judges Parts site_start (Behind ts es) (flat_map (element_sites input) ts)

  behind : (t : Tree) (ts : List Tree) (es : List Element) (e : Element) → IsElement input t e → AllByRecursion Parts (element_sites input t) → (r : Result (List Element) ℕ)
      → JudgesElements ts (es ++ e ∷ []) r → JudgesElements (t ∷ ts) es r
  behind t ts es e h own (Ok all) j = (
    record { new = e ∷ j.0.new; all_are = j.0.all_are ∙ append_assoc es (e ∷ []) j.0.new; each = (h, j.0.each) },
    all-append Parts site_start (element_sites input t) (flat_map (element_sites input) ts) own j.1,
  )
  behind t ts es e h own (Err place) j = broken_right Parts site_start (element_sites input t) (flat_map (element_sites input) ts) place own j

  then_elements : (t : Tree) (ts : List Tree) (es : List Element) → ((more : List Element) → JudgesElements ts more (elements_from input more ts)) → (r : Result Element ℕ) → JudgesElement t r
      → JudgesElements (t ∷ ts) es (and_then r (λ e. elements_from input (es ++ e ∷ []) ts))
  then_elements t ts es rest (Ok e) j = behind t ts es e j.0 j.1 (elements_from input (es ++ e ∷ []) ts) (rest (es ++ e ∷ []))
  then_elements t ts es rest (Err place) j = broken_left Parts site_start (element_sites input t) (flat_map (element_sites input) ts) place j

  judges_elements : (ts : List Tree) (es : List Element) → JudgesElements ts es (elements_from input es ts)
  judges_elements [] es = (record { new = []; all_are = sym (append-nil es); each = tt }, tt)
  judges_elements (t ∷ ts) es = then_elements t ts es (judges_elements ts) (element_at input t) (judges_element t)

  pub judges_package : (t : Tree) → Judges Parts site_start (IsPackage input t) (package_sites input t) (package_at input t)
  unfolding package_at
  judges_package t = go (package_row input t) refl where
    made : PackageFields input t → (r : Result (List Element) ℕ) → JudgesElements (children_of 0x01 t) [] r → Judges Parts site_start (IsPackage input t) (package_sites input t) r
    made h (Ok all) j = ((h, subst (λ (l : List Element). Each (IsElement input) (children_of 0x01 t) l) (sym j.0.all_are) j.0.each), (h, j.1))
    made h (Err place) j = inr (h, j)

    go : (o : Option ℕ) → package_row input t ≡ o → Judges Parts site_start (IsPackage input t) (package_sites input t) (package_with input t o)
    go (Some b) e = made (package_found input fits t b e) (elements_from input [] (children_of 0x01 t)) (judges_elements (children_of 0x01 t) [])
    go None e = inl (λ own. let some = package_again input fits t own in absurd cc, refl)

  -- ---- what is in form is read

  pub again_body : (t : Tree) (kind : ℕ) (body : Body) → SaysBody input t kind body → body_at input kind t ≡ Ok body
  unfolding body_at index_at storage_at cell_at revision_at blob_at
  again_body t kind (Index m c r) s =
      let cs = (out-Tree t).children in
      let a = each_ok input fits 1 0x11 (IsOf manifest_mapping input) (λ c v k h. fine input fits 1 refl c (ok_manifest_mapping input fits c k ∙ ap is_some (manifest_map_reads.again input fits c v h))) cs m s.1 in
      let b = each_ok input fits 1 0x0E (IsOf cell_mapping input) (λ c v k h. fine input fits 1 refl c (ok_cell_mapping input fits c k ∙ ap is_some (cell_map_reads.again input fits c v h))) cs c s.2 in
      let d = each_ok input fits 1 0x0D (IsOf revision_mapping input) (λ c v k h. fine input fits 1 refl c (ok_revision_mapping input fits c k ∙ ap is_some (revision_map_reads.again input fits c v h))) cs r s.3 in
      let none : check_at input 1 cs ≡ None = check_none input fits 1 cs (either_ok input fits 1 (λ c. is_kind 0x11 c || is_kind 0x0E c) (is_kind 0x0D) cs (either_ok input fits 1 (is_kind 0x11) (is_kind 0x0E) cs a b) d) in
      rw (
        s.0,
        none,
        again_collect input fits (row_at manifest_code.take) (IsOf manifest_mapping input) (manifest_map_reads.again input fits) (children_of 0x11 t) m [] s.1,
        again_collect input fits (row_at cell_code.take) (IsOf cell_mapping input) (cell_map_reads.again input fits) (children_of 0x0E t) c [] s.2,
        again_collect input fits (row_at revision_code.take) (IsOf revision_mapping input) (revision_map_reads.again input fits) (children_of 0x0D t) r [] s.3,
      ) refl
  again_body t kind (Storage g r) s =
      let cs = (out-Tree t).children in
      let a = one_ok input fits 2 0x0C (IsOf schema_guid input) (λ c v k h. fine input fits 2 refl c (ok_schema input fits c k ∙ ap is_some (schema_reads.again input fits c v h))) t g s.1 in
      let b = each_ok input fits 2 0x07 (IsOf manifest_root input) (λ c v k h. fine input fits 2 refl c (ok_manifest_root input fits c k ∙ ap is_some (root_reads.again input fits c v h))) cs r s.2 in
      let none : check_at input 2 cs ≡ None = check_none input fits 2 cs (either_ok input fits 2 (is_kind 0x0C) (is_kind 0x07) cs a b) in
      rw (
        s.0,
        none,
        again_only input fits 0x0C (row_at take_guid) (IsOf schema_guid input) (schema_reads.again input fits) t g s.1,
        again_collect input fits (row_at root_code.take) (IsOf manifest_root input) (root_reads.again input fits) (children_of 0x07 t) r [] s.2,
        ap single s.1.1,
      ) refl
  again_body t kind (Cell i) s =
      let cs = (out-Tree t).children in
      let a = one_ok input fits 3 0x0B (IsOf current_revision input) (λ c v k h. fine input fits 3 refl c (ok_current input fits c k ∙ ap is_some (id_reads.again input fits c v h))) t i s.1 in
      let none : check_at input 3 cs ≡ None = check_none input fits 3 cs a in
      rw (s.0, none, again_only input fits 0x0B (row_at take_exguid) (IsOf current_revision input) (id_reads.again input fits) t i s.1, ap single s.1.1) refl
  again_body t kind (Revision i b r g) s =
      let cs = (out-Tree t).children in
      let x = one_ok input fits 4 0x1A (IsOf revision_manifest input) (λ c v k h. fine input fits 4 refl c (ok_revision input fits c k ∙ ap is_some (head_reads.again input fits c v h))) t (i, b) s.1 in
      let y = each_ok input fits 4 0x0A (IsOf revision_root input) (λ c v k h. fine input fits 4 refl c (ok_revision_root input fits c k ∙ ap is_some (revision_root_reads.again input fits c v h))) cs r s.2 in
      let z = each_ok input fits 4 0x19 (IsOf group_reference input) (λ c v k h. fine input fits 4 refl c (ok_group input fits c k ∙ ap is_some (id_reads.again input fits c v h))) cs g s.3 in
      let none : check_at input 4 cs ≡ None = check_none input fits 4 cs (either_ok input fits 4 (λ c. is_kind 0x1A c || is_kind 0x0A c) (is_kind 0x19) cs (either_ok input fits 4 (is_kind 0x1A) (is_kind 0x0A) cs x y) z) in
      rw (
        s.0,
        none,
        again_only input fits 0x1A (row_at (take_both take_exguid take_exguid)) (IsOf revision_manifest input) (head_reads.again input fits) t (i, b) s.1,
        again_collect input fits (row_at revision_root_code.take) (IsOf revision_root input) (revision_root_reads.again input fits) (children_of 0x0A t) r [] s.2,
        again_collect input fits (row_at take_exguid) (IsOf group_reference input) (id_reads.again input fits) (children_of 0x19 t) g [] s.3,
        ap single s.1.1,
      ) refl
  again_body t kind (Group objects) s = rw s.0 (again_group input fits t objects s.1)
  again_body t kind (Blob bytes) s =
      let cs = (out-Tree t).children in
      let a = one_ok input fits 10 0x02 (BlobContent input) (λ c v k h. fine input fits 10 refl c (ok_blob input fits c k ∙ ap is_some (blob_again input fits c v h))) t bytes s.1 in
      let none : check_at input 10 cs ≡ None = check_none input fits 10 cs a in
      rw (s.0, none, again_only input fits 0x02 blob_row (BlobContent input) (blob_again input fits) t bytes s.1, ap single s.1.1) refl

  pub again_element : (t : Tree) (e : Element) → IsElement input t e → element_at input t ≡ Ok e
  unfolding element_at
  again_element t e h = ap (element_with input t) (element_again input fits t (e.id, (h.0, h.1.0)) h.1.1) ∙ ap (element_of e.id) (again_body t h.1.0 e.body h.1.2)

  again_elements : (ts : List Tree) (es acc : List Element) → Each (IsElement input) ts es → elements_from input acc ts ≡ Ok (acc ++ es)
  again_elements [] [] acc h = ap Ok (sym (append-nil acc))
  again_elements [] (e ∷ es) acc h = absurd h
  again_elements (t ∷ ts) [] acc h = absurd h
  again_elements (t ∷ ts) (e ∷ es) acc h =
      ap (λ (r : Result Element ℕ). and_then r (λ x. elements_from input (acc ++ x ∷ []) ts)) (again_element t e h.0) ∙ again_elements ts es (acc ++ e ∷ []) h.1 ∙ ap Ok (append_assoc acc (e ∷ []) es)

  pub again_package : (t : Tree) (es : List Element) → IsPackage input t es → package_at input t ≡ Ok es
  unfolding package_at
  again_package t es h = ap (package_with input t) (package_again input fits t h.0) ∙ again_elements (children_of 0x01 t) es [] h.1
