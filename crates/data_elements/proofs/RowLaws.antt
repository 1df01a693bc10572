-- The rows of fields of the children of elements are read exactly.
use Rattle.std.proofs.Common.{◌≡◌, ℕ, Bool, true, false, List, [], ◌∷◌, Option, Some, None, inl, inr, refl, sym, ap, ◌∙◌}
use Rattle.std.specs.Prelude.{is_some, option_map, if◌then◌else◌}
use Rattle.std.proofs.lemmas.Bool.Decides.{eqb_tells}
use Rattle.compact_values.specs.Compact.{SpellsCompact}
use Rattle.compact_values.specs.Ids.{SpellsGuid, SpellsExGuid, SpellsSerial, SpellsCellId}
use Rattle.compact_values.specs.Items.{SpellsItem}
use Rattle.compact_values.specs.Sequences.{◌▹◌, SpellsByte}
use Rattle.compact_values.specs.declared.guid.Guid.{Guid}
use Rattle.compact_values.specs.declared.ids.ExGuid.{ExGuid}
use Rattle.compact_values.specs.declared.ids.Serial.{Serial}
use Rattle.compact_values.specs.Taking.{take_compact, take_byte, take_guid, take_exguid, take_serial, take_cell_id, take_item, take_both, if_all}
use Rattle.compact_values.proofs.LittleEndian.{IsBytes}
use Rattle.compact_values.proofs.Takes.{Takes, takes_compact, takes_byte, takes_guid, takes_exguid, takes_serial, takes_cell_id, takes_item, takes_both, gets_all}
use Rattle.wire_kinds.specs.Row.{row_at}
use Rattle.wire_kinds.specs.RowLaws.{Reads, reads}
use Rattle.wire_kinds.specs.Code.{◌▸◌, guid, exguid}
use Rattle.doc_model.specs.wire.ElementRows.{manifest_mapping, cell_mapping, revision_mapping, schema_guid, manifest_root, revision_manifest, revision_root, group_reference}
use Rattle.doc_model.specs.readers.ElementCodes.{manifest_code, cell_code, revision_code, root_code, revision_root_code}
use Rattle.stream_objects.specs.declared.tree.Tree.{Tree}
use Rattle.stream_objects.specs.declared.tree.Tree.TheViews.{out-Tree}
use Rattle.stream_objects.specs.Objects.{HasFields, fields_of, kind_of}
use Rattle.stream_objects.proofs.Children.{simple_gets, simple_again, compound_gets, compound_again, IsBytes-fields}
use Rattle.doc_model.specs.wire.ElementObjects.{NoFields, PackageFields, ElementFields, BlobContent}
use Rattle.doc_model.specs.readers.ElementSites.{ChildInForm, element_row}
use Rattle.data_elements.specs.Rows.{simple_row, compound_row, is_nothing, if_nothing, has_no_fields, package_row, blob_row, child_ok}

pub is_some_value : {V : Type 0} (o : Option V) → is_some o ≡ true → (v : V) × (o ≡ Some v)
is_some_value (Some v) e = (v, refl)
is_some_value None e = absurd cc

-- what a record was made of
pub mapped : {A V : Type 0} (to : A → V) (back : V → A) → ((a : A) → back (to a) ≡ a) → (o : Option A) (v : V) → option_map to o ≡ Some v → o ≡ Some (back v)
mapped to back here (Some a) v e = let same : to a ≡ v = cc in ap Some (sym (here a) ∙ ap back same)
mapped to back here None v e = absurd cc

takes_element : Takes (SpellsExGuid ▹ SpellsSerial ▹ SpellsCompact) (take_both take_exguid (take_both take_serial take_compact))
takes_element =
    takes_both SpellsExGuid (SpellsSerial ▹ SpellsCompact) take_exguid (take_both take_serial take_compact) takes_exguid (takes_both SpellsSerial SpellsCompact take_serial take_compact takes_serial takes_compact)

-- ---- the regular rows. An extended GUID alone is read as a 0B or as a 19.

pub root_reads : Reads manifest_root (row_at root_code.take)
root_reads = reads manifest_root root_code.take root_code.exact

pub revision_root_reads : Reads revision_root (row_at revision_root_code.take)
revision_root_reads = reads revision_root revision_root_code.take revision_root_code.exact

pub id_reads : Reads group_reference (row_at exguid.take)
id_reads = reads group_reference exguid.take exguid.exact

pub schema_reads : Reads schema_guid (row_at guid.take)
schema_reads = reads schema_guid guid.take guid.exact

pub revision_map_reads : Reads revision_mapping (row_at revision_code.take)
revision_map_reads = reads revision_mapping revision_code.take revision_code.exact

pub cell_map_reads : Reads cell_mapping (row_at cell_code.take)
cell_map_reads = reads cell_mapping cell_code.take cell_code.exact

pub manifest_map_reads : Reads manifest_mapping (row_at manifest_code.take)
manifest_map_reads = reads manifest_mapping manifest_code.take manifest_code.exact

pub head_reads : Reads revision_manifest (row_at (exguid ▸ exguid).take)
head_reads = reads revision_manifest (exguid ▸ exguid).take (exguid ▸ exguid).exact

module _ (input : List ℕ) (fits : IsBytes input) where
  -- the fields of a simple object, of a compound one, and of a record
  pub row_found : {A : Type 0} (Spells : A → List ℕ → Type 0) (get : List ℕ → Option (A × List ℕ)) → Takes Spells get → (t : Tree) (a : A) → simple_row get input t ≡ Some a → HasFields false Spells input t a
  row_found {A} Spells get takes t a e = simple_gets Spells (λ b. if_all (get b)) (gets_all Spells get takes) input t (IsBytes-fields input t fits) a e

  pub row_again : {A : Type 0} (Spells : A → List ℕ → Type 0) (get : List ℕ → Option (A × List ℕ)) → Takes Spells get → (t : Tree) (a : A) → HasFields false Spells input t a → simple_row get input t ≡ Some a
  row_again {A} Spells get takes t a h = simple_again Spells (λ b. if_all (get b)) (gets_all Spells get takes) input t (IsBytes-fields input t fits) a h

  pub compound_row_found : {A : Type 0} (Spells : A → List ℕ → Type 0) (get : List ℕ → Option (A × List ℕ)) → Takes Spells get → (t : Tree) (a : A) → compound_row get input t ≡ Some a → HasFields true Spells input t a
  compound_row_found {A} Spells get takes t a e = compound_gets Spells (λ b. if_all (get b)) (gets_all Spells get takes) input t (IsBytes-fields input t fits) a e

  pub compound_row_again : {A : Type 0} (Spells : A → List ℕ → Type 0) (get : List ℕ → Option (A × List ℕ)) → Takes Spells get → (t : Tree) (a : A) → HasFields true Spells input t a → compound_row get input t ≡ Some a
  compound_row_again {A} Spells get takes t a h = compound_again Spells (λ b. if_all (get b)) (gets_all Spells get takes) input t (IsBytes-fields input t fits) a h

  pub record_found : {A V : Type 0} (Spells : A → List ℕ → Type 0) (get : List ℕ → Option (A × List ℕ)) (to : A → V) (back : V → A) → ((a : A) → back (to a) ≡ a)
      → Takes Spells get → (t : Tree) (v : V) → option_map to (simple_row get input t) ≡ Some v → HasFields false Spells input t (back v)
  record_found {A} {V} Spells get to back here takes t v e = row_found Spells get takes t (back v) (mapped to back here (simple_row get input t) v e)

  pub record_again : {A V : Type 0} (Spells : A → List ℕ → Type 0) (get : List ℕ → Option (A × List ℕ)) (to : A → V) (back : V → A) → ((v : V) → to (back v) ≡ v)
      → Takes Spells get → (t : Tree) (v : V) → HasFields false Spells input t (back v) → option_map to (simple_row get input t) ≡ Some v
  record_again {A} {V} Spells get to back there takes t v h = ap (option_map to) (row_again Spells get takes t (back v) h) ∙ ap Some (there v)

  nothing : (bytes : List ℕ) → is_nothing bytes ≡ true → bytes ≡ []
  nothing [] e = refl
  nothing (b ∷ bytes) e = absurd cc

  nothing_in : (t : Tree) (mark : Bool) → (out-Tree t).compound ≡ mark → if_nothing (if mark then Some (fields_of input t) else None) ≡ true → NoFields input t
  nothing_in t true m e = record { mark = m; fields = nothing (fields_of input t) e }
  nothing_in t false m e = absurd cc

  pub no_fields : (t : Tree) → has_no_fields input t ≡ true → NoFields input t
  no_fields t e = nothing_in t (out-Tree t).compound refl e

  pub no_fields_again : (t : Tree) → NoFields input t → has_no_fields input t ≡ true
  no_fields_again t h = rw (h.mark, h.fields) refl

  pub element_found : (t : Tree) (x : ExGuid × (Serial × ℕ)) → element_row input t ≡ Some x → ElementFields input t x.0 x.1.0 x.1.1
  element_found t x e = compound_row_found (SpellsExGuid ▹ SpellsSerial ▹ SpellsCompact) (take_both take_exguid (take_both take_serial take_compact)) takes_element t x e

  pub element_again : (t : Tree) (x : ExGuid × (Serial × ℕ)) → ElementFields input t x.0 x.1.0 x.1.1 → element_row input t ≡ Some x
  element_again t x h = compound_row_again (SpellsExGuid ▹ SpellsSerial ▹ SpellsCompact) (take_both take_exguid (take_both take_serial take_compact)) takes_element t x h

  pub package_found : (t : Tree) (x : ℕ) → package_row input t ≡ Some x → PackageFields input t
  package_found t x e = (x, compound_row_found SpellsByte take_byte takes_byte t x e)

  pub package_again : (t : Tree) (h : PackageFields input t) → package_row input t ≡ Some h.0
  package_again t h = compound_row_again SpellsByte take_byte takes_byte t h.0 h.1

  pub blob_found : (t : Tree) (v : List ℕ) → blob_row input t ≡ Some v → BlobContent input t v
  unfolding blob_row
  blob_found t v e = row_found (SpellsItem) (take_item) takes_item t v e

  pub blob_again : (t : Tree) (v : List ℕ) → BlobContent input t v → blob_row input t ≡ Some v
  unfolding blob_row
  blob_again t v h = row_again (SpellsItem) (take_item) takes_item t v h

  -- ---- a child, by its type

  pub ok_blob : (t : Tree) → kind_of t ≡ 0x02 → child_ok input t ≡ is_some (blob_row input t)
  unfolding child_ok
  ok_blob t e = rw e refl

  pub ok_manifest_root : (t : Tree) → kind_of t ≡ 0x07 → child_ok input t ≡ is_some (row_at root_code.take input t)
  unfolding child_ok
  ok_manifest_root t e = rw e refl

  pub ok_revision_root : (t : Tree) → kind_of t ≡ 0x0A → child_ok input t ≡ is_some (row_at revision_root_code.take input t)
  unfolding child_ok
  ok_revision_root t e = rw e refl

  pub ok_current : (t : Tree) → kind_of t ≡ 0x0B → child_ok input t ≡ is_some (row_at take_exguid input t)
  unfolding child_ok
  ok_current t e = rw e refl

  pub ok_schema : (t : Tree) → kind_of t ≡ 0x0C → child_ok input t ≡ is_some (row_at take_guid input t)
  unfolding child_ok
  ok_schema t e = rw e refl

  pub ok_revision_mapping : (t : Tree) → kind_of t ≡ 0x0D → child_ok input t ≡ is_some (row_at revision_code.take input t)
  unfolding child_ok
  ok_revision_mapping t e = rw e refl

  pub ok_cell_mapping : (t : Tree) → kind_of t ≡ 0x0E → child_ok input t ≡ is_some (row_at cell_code.take input t)
  unfolding child_ok
  ok_cell_mapping t e = rw e refl

  pub ok_manifest_mapping : (t : Tree) → kind_of t ≡ 0x11 → child_ok input t ≡ is_some (row_at manifest_code.take input t)
  unfolding child_ok
  ok_manifest_mapping t e = rw e refl

  pub ok_group : (t : Tree) → kind_of t ≡ 0x19 → child_ok input t ≡ is_some (row_at take_exguid input t)
  unfolding child_ok
  ok_group t e = rw e refl

  pub ok_revision : (t : Tree) → kind_of t ≡ 0x1A → child_ok input t ≡ is_some (row_at (take_both take_exguid take_exguid) input t)
  unfolding child_ok
  ok_revision t e = rw e refl

  pub ok_declarations : (t : Tree) → kind_of t ≡ 0x1D → child_ok input t ≡ has_no_fields input t
  unfolding child_ok
  ok_declarations t e = rw e refl

  pub ok_data_of : (t : Tree) → kind_of t ≡ 0x1E → child_ok input t ≡ has_no_fields input t
  unfolding child_ok
  ok_data_of t e = rw e refl

  pub child_sound : (t : Tree) → child_ok input t ≡ true → ChildInForm input t
  child_sound t h = record {
    blob = λ e. let v = is_some_value (blob_row input t) (sym (ok_blob t e) ∙ h) in (v.0, blob_found t v.0 v.1);
    manifest_root = λ e. let v = is_some_value (row_at root_code.take input t) (sym (ok_manifest_root t e) ∙ h) in (v.0, root_reads.found input fits t v.0 v.1);
    revision_root = λ e. let v = is_some_value (row_at revision_root_code.take input t) (sym (ok_revision_root t e) ∙ h) in (v.0, revision_root_reads.found input fits t v.0 v.1);
    current = λ e. let v = is_some_value (row_at take_exguid input t) (sym (ok_current t e) ∙ h) in (v.0, id_reads.found input fits t v.0 v.1);
    schema = λ e. let v = is_some_value (row_at take_guid input t) (sym (ok_schema t e) ∙ h) in (v.0, schema_reads.found input fits t v.0 v.1);
    revision_mapping = λ e. let v = is_some_value (row_at revision_code.take input t) (sym (ok_revision_mapping t e) ∙ h) in (v.0, revision_map_reads.found input fits t v.0 v.1);
    cell_mapping = λ e. let v = is_some_value (row_at cell_code.take input t) (sym (ok_cell_mapping t e) ∙ h) in (v.0, cell_map_reads.found input fits t v.0 v.1);
    manifest_mapping = λ e. let v = is_some_value (row_at manifest_code.take input t) (sym (ok_manifest_mapping t e) ∙ h) in (v.0, manifest_map_reads.found input fits t v.0 v.1);
    group = λ e. let v = is_some_value (row_at take_exguid input t) (sym (ok_group t e) ∙ h) in (v.0, id_reads.found input fits t v.0 v.1);
    revision = λ e. let v = is_some_value (row_at (take_both take_exguid take_exguid) input t) (sym (ok_revision t e) ∙ h) in (v.0, head_reads.found input fits t v.0 v.1);
    declarations = λ e. no_fields t (sym (ok_declarations t e) ∙ h);
    data_of = λ e. no_fields t (sym (ok_data_of t e) ∙ h);
  }

  pub child_complete : (t : Tree) → ChildInForm input t → child_ok input t ≡ true
  unfolding child_ok
  child_complete t h =
      elim (eqb_tells (kind_of t) 0x02) [
        | inl y0 ↦ ok_blob t y0.1 ∙ ap is_some (blob_again t (h.blob y0.1).0 (h.blob y0.1).1)
        | inr n0 ↦
            elim (eqb_tells (kind_of t) 0x07) [
              | inl y1 ↦ ok_manifest_root t y1.1 ∙ ap is_some (root_reads.again input fits t (h.manifest_root y1.1).0 (h.manifest_root y1.1).1)
              | inr n1 ↦
                  elim (eqb_tells (kind_of t) 0x0A) [
                    | inl y2 ↦ ok_revision_root t y2.1 ∙ ap is_some (revision_root_reads.again input fits t (h.revision_root y2.1).0 (h.revision_root y2.1).1)
                    | inr n2 ↦
                        elim (eqb_tells (kind_of t) 0x0B) [
                          | inl y3 ↦ ok_current t y3.1 ∙ ap is_some (id_reads.again input fits t (h.current y3.1).0 (h.current y3.1).1)
                          | inr n3 ↦
                              elim (eqb_tells (kind_of t) 0x0C) [
                                | inl y4 ↦ ok_schema t y4.1 ∙ ap is_some (schema_reads.again input fits t (h.schema y4.1).0 (h.schema y4.1).1)
                                | inr n4 ↦
                                    elim (eqb_tells (kind_of t) 0x0D) [
                                      | inl y5 ↦ ok_revision_mapping t y5.1 ∙ ap is_some (revision_map_reads.again input fits t (h.revision_mapping y5.1).0 (h.revision_mapping y5.1).1)
                                      | inr n5 ↦
                                          elim (eqb_tells (kind_of t) 0x0E) [
                                            | inl y6 ↦ ok_cell_mapping t y6.1 ∙ ap is_some (cell_map_reads.again input fits t (h.cell_mapping y6.1).0 (h.cell_mapping y6.1).1)
                                            | inr n6 ↦
                                                elim (eqb_tells (kind_of t) 0x11) [
                                                  | inl y7 ↦ ok_manifest_mapping t y7.1 ∙ ap is_some (manifest_map_reads.again input fits t (h.manifest_mapping y7.1).0 (h.manifest_mapping y7.1).1)
                                                  | inr n7 ↦
                                                      elim (eqb_tells (kind_of t) 0x19) [
                                                        | inl y8 ↦ ok_group t y8.1 ∙ ap is_some (id_reads.again input fits t (h.group y8.1).0 (h.group y8.1).1)
                                                        | inr n8 ↦
                                                            elim (eqb_tells (kind_of t) 0x1A) [
                                                              | inl y9 ↦ ok_revision t y9.1 ∙ ap is_some (head_reads.again input fits t (h.revision y9.1).0 (h.revision y9.1).1)
                                                              | inr n9 ↦
                                                                  elim (eqb_tells (kind_of t) 0x1D) [
                                                                    | inl y10 ↦ ok_declarations t y10.1 ∙ no_fields_again t (h.declarations y10.1)
                                                                    | inr n10 ↦
                                                                        elim (eqb_tells (kind_of t) 0x1E) [
                                                                          | inl y11 ↦ ok_data_of t y11.1 ∙ no_fields_again t (h.data_of y11.1)
                                                                          | inr n11 ↦
                                                                              rw (n0.0, n1.0, n2.0, n3.0, n4.0, n5.0, n6.0, n7.0, n8.0, n9.0, n10.0, n11.0) refl
                                                                        ]
                                                                  ]
                                                            ]
                                                      ]
                                                ]
                                          ]
                                    ]
                              ]
                        ]
                  ]
            ]
      ]
