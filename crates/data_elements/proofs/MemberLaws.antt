-- The rows of fields of declarations and data are read exactly. The fields of a declaration with a blob are no three and
-- four compact integers at once.
use Rattle.std.proofs.Common.{◌≡◌, ℕ, false, true, List, [], ◌++◌, Option, Some, None, inl, inr, refl, sym, ap, subst, ◌∙◌, append_assoc}
use Rattle.std.specs.Prelude.{is_some, option_map}
use Rattle.std.proofs.lemmas.Bool.Decides.{eqb_tells}
use Rattle.std.proofs.lemmas.List.{append-nil}
use Rattle.compact_values.specs.Compact.{SpellsCompact}
use Rattle.compact_values.specs.Reading.{compact_at}
use Rattle.compact_values.specs.Both.{SpellsBoth}
use Rattle.compact_values.specs.Ids.{SpellsExGuid}
use Rattle.compact_values.specs.Items.{SpellsItem, SpellsIds, SpellsCells}
use Rattle.compact_values.specs.Sequences.{◌▹◌}
use Rattle.compact_values.specs.declared.ids.ExGuid.{ExGuid}
use Rattle.compact_values.specs.declared.ids.CellId.{CellId}
use Rattle.compact_values.specs.Taking.{take_compact, take_exguid, take_item, take_ids, take_cells, take_both}
use Rattle.compact_values.proofs.LittleEndian.{IsBytes}
use Rattle.compact_values.proofs.Takes.{Takes, takes_compact, takes_exguid, takes_item, takes_ids, takes_cells, takes_both, some_pair}
use Rattle.stream_objects.specs.declared.tree.Tree.{Tree}
use Rattle.stream_objects.specs.Objects.{HasFields, fields_of, kind_of}
use Rattle.doc_model.specs.wire.ElementObjects.{ObjectDeclaration, BlobDeclaration, ObjectData, BlobReference}
use Rattle.doc_model.specs.readers.ElementSites.{MemberInForm}
use Rattle.data_elements.specs.Rows.{simple_row, take_declaration, without_counts, declaration_row, take_three, take_four, Declared, from_three, from_four, declared_row, data_row, reference_row, member_ok}
use Rattle.data_elements.proofs.RowLaws.{is_some_value, row_found, row_again}

abbrev Declares : ExGuid × (ℕ × (ℕ × (ℕ × ℕ))) → List ℕ → Type 0
Declares = SpellsExGuid ▹ SpellsCompact ▹ SpellsCompact ▹ SpellsCompact ▹ SpellsCompact

abbrev Three : ExGuid × (ExGuid × (ℕ × (ℕ × ℕ))) → List ℕ → Type 0
Three = SpellsExGuid ▹ SpellsExGuid ▹ SpellsCompact ▹ SpellsCompact ▹ SpellsCompact

abbrev Four : ExGuid × (ExGuid × (ℕ × (ℕ × (ℕ × ℕ)))) → List ℕ → Type 0
Four = SpellsExGuid ▹ SpellsExGuid ▹ SpellsCompact ▹ SpellsCompact ▹ SpellsCompact ▹ SpellsCompact

takes_two : Takes (SpellsCompact ▹ SpellsCompact) (take_both take_compact take_compact)
takes_two = takes_both SpellsCompact SpellsCompact take_compact take_compact takes_compact takes_compact

takes_compacts : Takes (SpellsCompact ▹ SpellsCompact ▹ SpellsCompact) (take_both take_compact (take_both take_compact take_compact))
takes_compacts = takes_both SpellsCompact (SpellsCompact ▹ SpellsCompact) take_compact (take_both take_compact take_compact) takes_compact takes_two

takes_more : Takes (SpellsCompact ▹ SpellsCompact ▹ SpellsCompact ▹ SpellsCompact) (take_both take_compact (take_both take_compact (take_both take_compact take_compact)))
takes_more = takes_both SpellsCompact (SpellsCompact ▹ SpellsCompact ▹ SpellsCompact) take_compact (take_both take_compact (take_both take_compact take_compact)) takes_compact takes_compacts

takes_declaration : Takes Declares take_declaration
takes_declaration =
    takes_both SpellsExGuid (SpellsCompact ▹ SpellsCompact ▹ SpellsCompact ▹ SpellsCompact) take_exguid (take_both take_compact (take_both take_compact (take_both take_compact take_compact))) takes_exguid takes_more

takes_three : Takes Three take_three
takes_three =
    takes_both SpellsExGuid (SpellsExGuid ▹ SpellsCompact ▹ SpellsCompact ▹ SpellsCompact) take_exguid (take_both take_exguid (take_both take_compact (take_both take_compact take_compact))) takes_exguid
    (takes_both SpellsExGuid (SpellsCompact ▹ SpellsCompact ▹ SpellsCompact) take_exguid (take_both take_compact (take_both take_compact take_compact)) takes_exguid takes_compacts)

takes_four : Takes Four take_four
takes_four =
    takes_both SpellsExGuid (SpellsExGuid ▹ SpellsCompact ▹ SpellsCompact ▹ SpellsCompact ▹ SpellsCompact) take_exguid
    (take_both take_exguid (take_both take_compact (take_both take_compact (take_both take_compact take_compact)))) takes_exguid
    (takes_both SpellsExGuid (SpellsCompact ▹ SpellsCompact ▹ SpellsCompact ▹ SpellsCompact) take_exguid (take_both take_compact (take_both take_compact (take_both take_compact take_compact))) takes_exguid takes_more)

takes_data : Takes (SpellsIds ▹ SpellsCells ▹ SpellsItem) (take_both take_ids (take_both take_cells take_item))
takes_data = takes_both SpellsIds (SpellsCells ▹ SpellsItem) take_ids (take_both take_cells take_item) takes_ids (takes_both SpellsCells SpellsItem take_cells take_item takes_cells takes_item)

takes_reference : Takes (SpellsIds ▹ SpellsCells ▹ SpellsExGuid) (take_both take_ids (take_both take_cells take_exguid))
takes_reference = takes_both SpellsIds (SpellsCells ▹ SpellsExGuid) take_ids (take_both take_cells take_exguid) takes_ids (takes_both SpellsCells SpellsExGuid take_cells take_exguid takes_cells takes_exguid)

-- a compact integer takes a byte at least
take_nothing : take_compact [] ≡ None
unfolding take_compact compact_at
take_nothing = refl

some_byte : (v : ℕ) (b : List ℕ) → SpellsCompact v b → b ≡ [] → ⊥
some_byte v b s e =
    let one = takes_compact.again v b [] s in
    let none : take_compact (b ++ []) ≡ None = ap (λ (l : List ℕ). take_compact (l ++ [])) e ∙ take_nothing in
    absurd cc

-- the first three of four
first_three : (w : ExGuid × (ExGuid × (ℕ × (ℕ × (ℕ × ℕ))))) (b : List ℕ) → Four w b
    → (front : List ℕ) × (last : List ℕ) × Three (w.0, (w.1.0, (w.1.1.0, (w.1.1.1.0, w.1.1.1.1.0)))) front × SpellsCompact w.1.1.1.1.1 last × (b ≡ front ++ last)
first_three w b f =
    let g = f.second in
    let h = g.second in
    let i = h.second in
    let j = i.second in
    let tail = i.front ++ j.front in
    let body = h.front ++ tail in
    let ids = g.front ++ body in
    let third : SpellsBoth SpellsCompact SpellsCompact (w.1.1.1.0, w.1.1.1.1.0) tail = record { front = i.front; back = j.front; first = i.first; second = j.first; bytes_are = refl } in
    let second : SpellsBoth SpellsCompact (SpellsCompact ▹ SpellsCompact) (w.1.1.0, (w.1.1.1.0, w.1.1.1.1.0)) body = record { front = h.front; back = tail; first = h.first; second = third; bytes_are = refl } in
    let first : SpellsBoth SpellsExGuid (SpellsCompact ▹ SpellsCompact ▹ SpellsCompact) (w.1.0, (w.1.1.0, (w.1.1.1.0, w.1.1.1.1.0))) ids = record { front = g.front; back = body; first = g.first; second = second; bytes_are = refl } in
    let e1 : i.back ≡ j.front ++ j.back = j.bytes_are in
    let e2 : h.back ≡ tail ++ j.back = i.bytes_are ∙ ap (λ (l : List ℕ). i.front ++ l) e1 ∙ sym (append_assoc i.front j.front j.back) in
    let e3 : g.back ≡ body ++ j.back = h.bytes_are ∙ ap (λ (l : List ℕ). h.front ++ l) e2 ∙ sym (append_assoc h.front tail j.back) in
    let e4 : f.back ≡ ids ++ j.back = g.bytes_are ∙ ap (λ (l : List ℕ). g.front ++ l) e3 ∙ sym (append_assoc g.front body j.back) in
    let e5 : b ≡ (f.front ++ ids) ++ j.back = f.bytes_are ∙ ap (λ (l : List ℕ). f.front ++ l) e4 ∙ sym (append_assoc f.front ids j.back) in
    (f.front ++ ids, j.back, record { front = f.front; back = ids; first = f.first; second = first; bytes_are = refl }, j.second, e5)

not_both : (v : ExGuid × (ExGuid × (ℕ × (ℕ × ℕ)))) (w : ExGuid × (ExGuid × (ℕ × (ℕ × (ℕ × ℕ))))) (b : List ℕ) → Three v b → Four w b → ⊥
not_both v w b s f =
    let t = first_three w b f in
    let whole = takes_three.again v b [] s in
    let part = takes_three.again (w.0, (w.1.0, (w.1.1.0, (w.1.1.1.0, w.1.1.1.1.0)))) t.0 t.1 t.2 in
    let same : b ++ [] ≡ t.0 ++ t.1 = append-nil b ∙ t.4 in
    let pair = some_pair (v, []) ((w.0, (w.1.0, (w.1.1.0, (w.1.1.1.0, w.1.1.1.1.0)))), t.1) (sym whole ∙ ap take_three same ∙ part) in
    some_byte w.1.1.1.1.1 t.1 t.3 (sym pair.1)

module _ (input : List ℕ) (fits : IsBytes input) where
  -- ---- 18

  declaration_in : (t : Tree) (d : ExGuid × (ℕ × ℕ)) (o : Option (ExGuid × (ℕ × (ℕ × (ℕ × ℕ))))) → simple_row take_declaration input t ≡ o → option_map without_counts o ≡ Some d
      → ObjectDeclaration input t d.0 d.1.0 d.1.1
  declaration_in t d (Some x) e g =
      let same : (x.0, (x.1.0, x.1.1.0)) ≡ d = cc in
      let h = row_found input fits Declares take_declaration takes_declaration t x e in
      (x.1.1.1.0, x.1.1.1.1, subst (λ (q : ExGuid × (ℕ × ℕ)). HasFields false Declares input t (q.0, (q.1.0, (q.1.1, (x.1.1.1.0, x.1.1.1.1))))) same h)
  declaration_in t d None e g = absurd cc

  pub declaration_found : (t : Tree) (d : ExGuid × (ℕ × ℕ)) → declaration_row input t ≡ Some d → ObjectDeclaration input t d.0 d.1.0 d.1.1
  unfolding declaration_row
  declaration_found t d e = declaration_in t d (simple_row take_declaration input t) refl e

  pub declaration_again : (t : Tree) (id : ExGuid) (partition size : ℕ) → ObjectDeclaration input t id partition size → declaration_row input t ≡ Some (id, (partition, size))
  unfolding declaration_row
  declaration_again t id partition size h = ap (option_map without_counts) (row_again input fits Declares take_declaration takes_declaration t (id, (partition, (size, (h.0, h.1)))) h.2)

  -- ---- 05

  without_size : (t : Tree) (id blob : ExGuid) (partition size m n : ℕ) (o : Option (ExGuid × (ExGuid × (ℕ × (ℕ × (ℕ × ℕ)))))) → simple_row take_four input t ≡ o → size ≡ 0
      → HasFields false Three input t (id, (blob, (partition, (m, n)))) → from_four o (from_three (simple_row take_three input t)) ≡ Some (id, (blob, (partition, size)))
  without_size t id blob partition size m n (Some x) e z h =
      absurd (not_both (id, (blob, (partition, (m, n)))) x (fields_of input t) h.fields (row_found input fits Four take_four takes_four t x e).fields)
  without_size t id blob partition size m n None e z h =
      ap from_three (row_again input fits Three take_three takes_three t (id, (blob, (partition, (m, n)))) h) ∙ ap (λ (k : ℕ). Some (id, (blob, (partition, k)))) (sym z)

  pub declared_again : (t : Tree) (id blob : ExGuid) (partition size : ℕ) → BlobDeclaration input t id blob partition size → declared_row input t ≡ Some (id, (blob, (partition, size)))
  unfolding declared_row
  declared_again t id blob partition size h =
      elim h.2 [
        | inl f ↦ rw (row_again input fits Four take_four takes_four t (id, (blob, (partition, (size, (h.0, h.1))))) f) refl
        | inr f ↦ without_size t id blob partition size h.0 h.1 (simple_row take_four input t) refl f.0 f.1
      ]

  declared_in : (t : Tree) (d : Declared) (o : Option (ExGuid × (ExGuid × (ℕ × (ℕ × (ℕ × ℕ)))))) (p : Option (ExGuid × (ExGuid × (ℕ × (ℕ × ℕ))))) → simple_row take_four input t ≡ o
      → simple_row take_three input t ≡ p → from_four o (from_three p) ≡ Some d → BlobDeclaration input t d.0 d.1.0 d.1.1.0 d.1.1.1
  declared_in t d (Some x) p e f g =
      let same : (x.0, (x.1.0, (x.1.1.0, x.1.1.1.0))) ≡ d = cc in
      let h = row_found input fits Four take_four takes_four t x e in
      (x.1.1.1.1.0, x.1.1.1.1.1, inl (subst (λ (q : Declared). HasFields false Four input t (q.0, (q.1.0, (q.1.1.0, (q.1.1.1, (x.1.1.1.1.0, x.1.1.1.1.1)))))) same h))
  declared_in t d None (Some x) e f g =
      let same : (x.0, (x.1.0, (x.1.1.0, 0))) ≡ d = cc in
      let h = row_found input fits Three take_three takes_three t x f in (
        x.1.1.1.0,
        x.1.1.1.1,
        inr (
          ap (λ (q : Declared). q.1.1.1) (sym same),
          subst (λ (q : Declared). HasFields false Three input t (q.0, (q.1.0, (q.1.1.0, (x.1.1.1.0, x.1.1.1.1))))) same h,
        ),
      )
  declared_in t d None None e f g = absurd cc

  pub declared_found : (t : Tree) (d : Declared) → declared_row input t ≡ Some d → BlobDeclaration input t d.0 d.1.0 d.1.1.0 d.1.1.1
  unfolding declared_row
  declared_found t d e = declared_in t d (simple_row take_four input t) (simple_row take_three input t) refl refl e

  -- ---- 16 and 1C

  pub data_found : (t : Tree) (x : List ExGuid × (List CellId × List ℕ)) → data_row input t ≡ Some x → ObjectData input t x.0 x.1.0 x.1.1
  unfolding data_row
  data_found t x e = row_found input fits (SpellsIds ▹ SpellsCells ▹ SpellsItem) (take_both take_ids (take_both take_cells take_item)) takes_data t x e

  pub data_again : (t : Tree) (references : List ExGuid) (cells : List CellId) (bytes : List ℕ) → ObjectData input t references cells bytes → data_row input t ≡ Some (references, (cells, bytes))
  unfolding data_row
  data_again t references cells bytes h = row_again input fits (SpellsIds ▹ SpellsCells ▹ SpellsItem) (take_both take_ids (take_both take_cells take_item)) takes_data t (references, (cells, bytes)) h

  pub reference_found : (t : Tree) (x : List ExGuid × (List CellId × ExGuid)) → reference_row input t ≡ Some x → BlobReference input t x.0 x.1.0 x.1.1
  unfolding reference_row
  reference_found t x e = row_found input fits (SpellsIds ▹ SpellsCells ▹ SpellsExGuid) (take_both take_ids (take_both take_cells take_exguid)) takes_reference t x e

  pub reference_again : (t : Tree) (references : List ExGuid) (cells : List CellId) (blob : ExGuid) → BlobReference input t references cells blob → reference_row input t ≡ Some (references, (cells, blob))
  unfolding reference_row
  reference_again t references cells blob h = row_again input fits (SpellsIds ▹ SpellsCells ▹ SpellsExGuid) (take_both take_ids (take_both take_cells take_exguid)) takes_reference t (references, (cells, blob)) h

  -- ---- by their types

  pub ok_blob_declaration : (t : Tree) → kind_of t ≡ 0x05 → member_ok input t ≡ is_some (declared_row input t)
  unfolding member_ok
  ok_blob_declaration t e = rw e refl

  pub ok_object_data : (t : Tree) → kind_of t ≡ 0x16 → member_ok input t ≡ is_some (data_row input t)
  unfolding member_ok
  ok_object_data t e = rw e refl

  pub ok_declaration : (t : Tree) → kind_of t ≡ 0x18 → member_ok input t ≡ is_some (declaration_row input t)
  unfolding member_ok
  ok_declaration t e = rw e refl

  pub ok_blob_reference : (t : Tree) → kind_of t ≡ 0x1C → member_ok input t ≡ is_some (reference_row input t)
  unfolding member_ok
  ok_blob_reference t e = rw e refl

  pub member_sound : (t : Tree) → member_ok input t ≡ true → MemberInForm input t
  member_sound t h = record {
    blob_declaration = λ e. let v = is_some_value (declared_row input t) (sym (ok_blob_declaration t e) ∙ h) in (v.0.0, v.0.1.0, v.0.1.1.0, v.0.1.1.1, declared_found t v.0 v.1);
    object_data = λ e. let v = is_some_value (data_row input t) (sym (ok_object_data t e) ∙ h) in (v.0.0, v.0.1.0, v.0.1.1, data_found t v.0 v.1);
    declaration = λ e. let v = is_some_value (declaration_row input t) (sym (ok_declaration t e) ∙ h) in (v.0.0, v.0.1.0, v.0.1.1, declaration_found t v.0 v.1);
    blob_reference = λ e. let v = is_some_value (reference_row input t) (sym (ok_blob_reference t e) ∙ h) in (v.0.0, v.0.1.0, v.0.1.1, reference_found t v.0 v.1);
  }

  pub member_complete : (t : Tree) → MemberInForm input t → member_ok input t ≡ true
  unfolding member_ok
  member_complete t h =
      elim (eqb_tells (kind_of t) 0x05) [
        | inl y ↦ let v = h.blob_declaration y.1 in ok_blob_declaration t y.1 ∙ ap is_some (declared_again t v.0 v.1 v.2 v.3 v.4)
        | inr a ↦
            elim (eqb_tells (kind_of t) 0x16) [
              | inl y ↦ let v = h.object_data y.1 in ok_object_data t y.1 ∙ ap is_some (data_again t v.0 v.1 v.2 v.3)
              | inr b ↦
                  elim (eqb_tells (kind_of t) 0x18) [
                    | inl y ↦ let v = h.declaration y.1 in ok_declaration t y.1 ∙ ap is_some (declaration_again t v.0 v.1 v.2 v.3)
                    | inr c ↦
                        elim (eqb_tells (kind_of t) 0x1C) [
                          | inl y ↦ let v = h.blob_reference y.1 in ok_blob_reference t y.1 ∙ ap is_some (reference_again t v.0 v.1 v.2 v.3)
                          | inr d ↦ rw (a.0, b.0, c.0, d.0) refl
                        ]
                  ]
            ]
      ]
