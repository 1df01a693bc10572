-- What is read of knowledge is what its objects say, or where the first of them that isn't in its form starts.
use Rattle.std.proofs.Common.{◌≡◌, ℕ, true, List, [], ◌∷◌, ◌++◌, Option, Some, None, Result, Ok, Err, inl, inr, refl, sym, ap, subst, ◌∙◌, eq-eqb, arith}
use Rattle.std.specs.Prelude.{nat_eq}
use Rattle.std.specs.List.{AllByRecursion, flat_map}
use Rattle.std.proofs.lemmas.Bool.{cases_Bool}
use Rattle.std.proofs.lemmas.Bool.Decides.{eqb_tells}
use Rattle.std.proofs.lemmas.List.{append-nil}
use Rattle.compact_values.specs.Compact.{SpellsCompact}
use Rattle.compact_values.specs.Ids.{SpellsGuid, SpellsSerial}
use Rattle.compact_values.specs.Sequences.{◌▹◌}
use Rattle.compact_values.specs.declared.guid.Guid.{Guid}
use Rattle.compact_values.specs.declared.ids.Serial.{Serial}
use Rattle.compact_values.specs.Taking.{take_compact, take_guid, take_serial, take_both}
use Rattle.compact_values.proofs.LittleEndian.{IsBytes}
use Rattle.compact_values.proofs.Takes.{Takes, takes_compact, takes_guid, takes_serial, takes_both}
use Rattle.stream_objects.specs.declared.tree.Tree.{Tree}
use Rattle.stream_objects.specs.declared.tree.Tree.TheViews.{out-Tree}
use Rattle.stream_objects.specs.Objects.{kind_of, start_of, children_of}
use Rattle.stream_objects.specs.ObjectFields.{single}
use Rattle.stream_objects.specs.Gathering.{Gathers, gather}
use Rattle.stream_objects.proofs.Broken.{Judges}
use Rattle.stream_objects.proofs.Children.{single_some, single_none}
use Rattle.stream_objects.proofs.GatherLaws.{Behind, judges_gather, again_gather}
use Rattle.doc_model.specs.wire.ElementObjects.{NoFields}
use Rattle.doc_model.specs.wire.Knowledges.{cell_knowledge, RangeFields, EntryFields, SpecializedFields, entry_ranges, AddsRanges, SaysCells, AddsCells, SaysKnowledge}
use Rattle.doc_model.specs.readers.KnowledgeSites.{Site, specialized, added, InOwnForm, site_start, cells_sites, guid_row, cells_behind, specialized_sites, knowledge_sites}
use Rattle.doc_model.specs.declared.knowledge.Range.{Range}
use Rattle.data_elements.specs.Rows.{has_no_fields}
use Rattle.data_elements.specs.KnowledgeReading.{range_of, range_row, entry_row, add_range, add_entry, added_at, cells_at, only_cells, specialized_with, specialized_at, knowledge_at}
use Rattle.data_elements.proofs.RowLaws.{row_found, row_again, record_found, record_again, compound_row_found, compound_row_again, no_fields, no_fields_again}

module _ (input : List ℕ) (fits : IsBytes input) where
  abbrev Own : Site → Type 0
  Own = InOwnForm input

  -- ---- rows

  takes_range : Takes (SpellsGuid ▹ SpellsCompact ▹ SpellsCompact) (take_both take_guid (take_both take_compact take_compact))
  takes_range = takes_both SpellsGuid (SpellsCompact ▹ SpellsCompact) take_guid (take_both take_compact take_compact) takes_guid (takes_both SpellsCompact SpellsCompact take_compact take_compact takes_compact takes_compact)

  range_found : (t : Tree) (r : Range) → range_row input t ≡ Some r → RangeFields input t r
  range_found t r e = record_found input fits (SpellsGuid ▹ SpellsCompact ▹ SpellsCompact) (take_both take_guid (take_both take_compact take_compact)) range_of (λ (x : Range). (x.guid, (x.from, x.to))) (λ a. refl) takes_range t r e

  range_again : (t : Tree) (r : Range) → RangeFields input t r → range_row input t ≡ Some r
  range_again t r h = record_again input fits (SpellsGuid ▹ SpellsCompact ▹ SpellsCompact) (take_both take_guid (take_both take_compact take_compact)) range_of (λ (x : Range). (x.guid, (x.from, x.to))) (λ v. refl) takes_range t r h

  entry_found : (t : Tree) (s : Serial) → entry_row input t ≡ Some s → EntryFields input t s
  entry_found t s e = row_found input fits SpellsSerial take_serial takes_serial t s e

  entry_again : (t : Tree) (s : Serial) → EntryFields input t s → entry_row input t ≡ Some s
  entry_again t s h = row_again input fits SpellsSerial take_serial takes_serial t s h

  guid_found : (t : Tree) (g : Guid) → guid_row input t ≡ Some g → SpecializedFields input t g
  guid_found t g e = compound_row_found input fits SpellsGuid take_guid takes_guid t g e

  guid_again : (t : Tree) (g : Guid) → SpecializedFields input t g → guid_row input t ≡ Some g
  guid_again t g h = compound_row_again input fits SpellsGuid take_guid takes_guid t g h

  -- ---- what a child of a 14 adds

  abbrev JudgesAdded : Tree → List Range → Result (List Range) ℕ → Type 0
  JudgesAdded t vs = Judges Own site_start (Behind (AddsRanges input t) vs) (added t ∷ [])

  adds : (t : Tree) (vs new : List Range) → AddsRanges input t new → JudgesAdded t vs (Ok (vs ++ new))
  adds t vs new a = (record { new = new; all_are = refl; is = a }, ((new, a), tt))

  judges_range : (t : Tree) (vs : List Range) → kind_of t ≡ 0x0F → (o : Option Range) → range_row input t ≡ o → JudgesAdded t vs (add_range (start_of t) vs o)
  judges_range t vs k (Some r) e =
      adds t vs (r ∷ []) (record { range = λ y. (r, range_found t r e, refl); entry = λ y. absurd (omega (arith, y, k)); other = λ n m. absurd (n k) })
  judges_range t vs k None e = inl (λ own. let h = own.1.range k in let some = range_again t h.0 h.1 in absurd cc, refl)

  judges_entry : (t : Tree) (vs : List Range) → kind_of t ≡ 0x17 → (o : Option Serial) → entry_row input t ≡ o → JudgesAdded t vs (add_entry (start_of t) vs o)
  judges_entry t vs k (Some s) e =
      adds t vs (entry_ranges s) (record { range = λ y. absurd (omega (arith, y, k)); entry = λ y. (s, entry_found t s e, refl); other = λ n m. absurd (m k) })
  judges_entry t vs k None e = inl (λ own. let h = own.1.entry k in let some = entry_again t h.0 h.1 in absurd cc, refl)

  judges_added : (t : Tree) (vs : List Range) → JudgesAdded t vs (added_at input vs t)
  unfolding added_at
  judges_added t vs =
      elim (eqb_tells (kind_of t) 0x0F) [
        | inl y ↦ rw y.0 (judges_range t vs y.1 (range_row input t) refl)
        | inr n ↦
            elim (eqb_tells (kind_of t) 0x17) [
              | inl y ↦ rw (n.0, y.0) (judges_entry t vs y.1 (entry_row input t) refl)
              | inr m ↦
                  let a : AddsRanges input t [] = record { range = λ y. absurd (n.1 y); entry = λ y. absurd (m.1 y); other = λ i j. refl } in
                  rw (n.0, m.0) (record { new = []; all_are = sym (append-nil vs); is = a }, (([], a), tt))
            ]
      ]

  again_added : (t : Tree) (vs new : List Range) → AddsRanges input t new → added_at input vs t ≡ Ok (vs ++ new)
  unfolding added_at
  again_added t vs new a =
      elim (eqb_tells (kind_of t) 0x0F) [
        | inl y ↦ let h = a.range y.1 in rw (y.0, range_again t h.0 h.1, h.2) refl
        | inr n ↦
            elim (eqb_tells (kind_of t) 0x17) [
              | inl y ↦ let h = a.entry y.1 in rw (n.0, y.0, entry_again t h.0 h.1, h.2) refl
              | inr m ↦ rw (n.0, m.0, a.other n.1 m.1) (ap Ok (sym (append-nil vs)))
            ]
      ]

  -- ---- a 14

  judges_cells : (t : Tree) (vs : List Range) → Judges Own site_start (Behind (SaysCells input t) vs) (cells_sites t) (cells_at input vs t)
  unfolding cells_at
  judges_cells t vs =
      elim (cases_Bool (has_no_fields input t)) [
        | inl y ↦
            rw y (made (no_fields input fits t y) (gather (added_at input) vs (out-Tree t).children)
            (judges_gather Own site_start (AddsRanges input) (λ c. added c ∷ []) (added_at input) judges_added (out-Tree t).children vs))
        | inr n ↦ rw n (inl (λ own. let yes_none = no_fields_again input fits t own in absurd cc, refl))
      ] where
        made : NoFields input t → (r : Result (List Range) ℕ)
            → Judges Own site_start (Behind (Gathers (AddsRanges input) (out-Tree t).children) vs) (flat_map (λ c. added c ∷ []) (out-Tree t).children) r
            → Judges Own site_start (Behind (SaysCells input t) vs) (cells_sites t) r
        made h (Ok all) j = (record { new = j.0.new; all_are = j.0.all_are; is = (h, j.0.is) }, (h, j.1))
        made h (Err place) j = inr (h, j)

  again_cells : (t : Tree) (vs new : List Range) → SaysCells input t new → cells_at input vs t ≡ Ok (vs ++ new)
  unfolding cells_at
  again_cells t vs new h = rw (no_fields_again input fits t h.0) (again_gather (AddsRanges input) (added_at input) again_added (out-Tree t).children vs new h.1)

  -- ---- a 44

  abbrev JudgesSpecialized : Tree → List Range → Result (List Range) ℕ → Type 0
  JudgesSpecialized t vs = Judges Own site_start (Behind (AddsCells input t) vs) (specialized t ∷ cells_behind (guid_row input t) (children_of 0x14 t))

  one_guid : (t : Tree) (g h : Guid) → guid_row input t ≡ Some g → SpecializedFields input t h → h ≡ g
  one_guid t g h e f = let other = guid_again t h f in cc

  holds : (t c : Tree) (vs : List Range) (g : Guid) → kind_of t ≡ 0x44 → guid_row input t ≡ Some g → g.number ≡ cell_knowledge → children_of 0x14 t ≡ c ∷ [] → (r : Result (List Range) ℕ)
      → Judges Own site_start (Behind (SaysCells input c) vs) (cells_sites c) r → JudgesSpecialized t vs r
  holds t c vs g k e n one r j =
      let test : nat_eq g.number cell_knowledge ≡ true = eq-eqb g.number cell_knowledge n in
      let parts : cells_behind (guid_row input t) (children_of 0x14 t) ≡ cells_sites c ++ [] = rw (e, test, one) refl in
      subst (λ (ps : List Site). Judges Own site_start (Behind (AddsCells input t) vs) (specialized t ∷ ps) r) (sym (parts ∙ append-nil (cells_sites c))) (go r j)
    where
      own : Own (specialized t)
      own = (g, guid_found t g e, λ m. (c, one))

      go : (r : Result (List Range) ℕ) → Judges Own site_start (Behind (SaysCells input c) vs) (cells_sites c) r
          → Judges Own site_start (Behind (AddsCells input t) vs) (specialized t ∷ cells_sites c) r
      go (Ok all) j = (
        record {
          new = j.0.new;
          all_are = j.0.all_are;
          is = record { specialized = λ y. (g, guid_found t g e, λ m. (c, one, j.0.is), λ m. absurd (m n)); other = λ m. absurd (m k) };
        },
        (own, j.1),
      )
      go (Err place) j = inr (own, j)

  judges_specialized_with : (t : Tree) (vs : List Range) → kind_of t ≡ 0x44 → (o : Option Guid) → guid_row input t ≡ o → JudgesSpecialized t vs (specialized_with input t vs o)
  judges_specialized_with t vs k None e = inl (λ own. let some = guid_again t own.0 own.1 in absurd cc, refl)
  judges_specialized_with t vs k (Some g) e =
      elim (eqb_tells g.number cell_knowledge) [
        | inl y ↦ rw y.0 (go y.1 (single (children_of 0x14 t)) refl)
        | inr n ↦
            let parts : cells_behind (guid_row input t) (children_of 0x14 t) ≡ [] = rw (e, n.0) refl in
            let own : Own (specialized t) = (g, guid_found t g e, λ m. absurd (n.1 m)) in
            let a : AddsCells input t [] = record { specialized = λ y. (g, guid_found t g e, λ m. absurd (n.1 m), λ m. refl); other = λ m. absurd (m k) } in
            rw n.0 (
              record { new = []; all_are = sym (append-nil vs); is = a },
              (own, subst (AllByRecursion Own) (sym parts) tt),
            )
      ] where
        go : g.number ≡ cell_knowledge → (s : Option Tree) → single (children_of 0x14 t) ≡ s → JudgesSpecialized t vs (only_cells input (start_of t) vs s)
        go n None f = inl (
          λ own.
              let same = one_guid t g own.0 e own.1 in
              let one = own.2 (ap (λ (x : Guid). x.number) same ∙ n) in
              single_none (children_of 0x14 t) f one.0 one.1,
          refl,
        )
        go n (Some c) f = holds t c vs g k e n (single_some (children_of 0x14 t) c f) (cells_at input vs c) (judges_cells c vs)

  judges_specialized : (t : Tree) (vs : List Range) → Judges Own site_start (Behind (AddsCells input t) vs) (specialized_sites input t) (specialized_at input vs t)
  unfolding specialized_at
  judges_specialized t vs =
      elim (eqb_tells (kind_of t) 0x44) [
        | inl y ↦ rw y.0 (judges_specialized_with t vs y.1 (guid_row input t) refl)
        | inr n ↦ rw n.0 (record { new = []; all_are = sym (append-nil vs); is = record { specialized = λ y. absurd (n.1 y); other = λ m. refl } }, tt)
      ]

  again_specialized : (t : Tree) (vs new : List Range) → AddsCells input t new → specialized_at input vs t ≡ Ok (vs ++ new)
  unfolding specialized_at
  again_specialized t vs new a =
      elim (eqb_tells (kind_of t) 0x44) [
        | inl y ↦
            let h = a.specialized y.1 in
            rw (y.0, guid_again t h.0 h.1)
            (elim (eqb_tells h.0.number cell_knowledge) [
              | inl c ↦ let one = h.2 c.1 in rw (c.0, ap single one.1) (again_cells one.0 vs new one.2)
              | inr c ↦ rw (c.0, h.3 c.1) (ap Ok (sym (append-nil vs)))
            ])
        | inr n ↦ rw (n.0, a.other n.1) (ap Ok (sym (append-nil vs)))
      ]

  -- ---- a 10

  pub judges_knowledge : (t : Tree) → Judges Own site_start (SaysKnowledge input t) (knowledge_sites input t) (knowledge_at input t)
  unfolding knowledge_at
  judges_knowledge t =
      elim (cases_Bool (has_no_fields input t)) [
        | inl y ↦
            rw y (made (no_fields input fits t y) (gather (specialized_at input) [] (out-Tree t).children)
            (judges_gather Own site_start (AddsCells input) (specialized_sites input) (specialized_at input) judges_specialized (out-Tree t).children []))
        | inr n ↦ rw n (inl (λ own. let yes_none = no_fields_again input fits t own in absurd cc, refl))
      ] where
        made : NoFields input t → (r : Result (List Range) ℕ)
            → Judges Own site_start (Behind (Gathers (AddsCells input) (out-Tree t).children) []) (flat_map (specialized_sites input) (out-Tree t).children) r
            → Judges Own site_start (SaysKnowledge input t) (knowledge_sites input t) r
        made h (Ok all) j = ((h, subst (Gathers (AddsCells input) (out-Tree t).children) (sym j.0.all_are) j.0.is), (h, j.1))
        made h (Err place) j = inr (h, j)

  pub again_knowledge : (t : Tree) (ranges : List Range) → SaysKnowledge input t ranges → knowledge_at input t ≡ Ok ranges
  unfolding knowledge_at
  again_knowledge t ranges h = rw (no_fields_again input fits t h.0) (again_gather (AddsCells input) (specialized_at input) again_specialized (out-Tree t).children [] ranges h.1)
