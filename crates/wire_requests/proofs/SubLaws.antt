-- What is read of a sub-request is what its objects say, or where the first of them that isn't in its form starts.
use Rattle.std.proofs.Common.{◌≡◌, ℕ, ◌<◌, true, false, List, [], ◌∷◌, map, Option, Some, None, Result, Ok, Err, inl, inr, ◌⊎◌, refl, sym, ap, subst, ◌∙◌, arith}
use Rattle.std.specs.Prelude.{◌==◌, is_some, if◌then◌else◌}
use Rattle.std.specs.List.{AllByRecursion}
use Rattle.std.proofs.lemmas.Bool.{lt-ltb, le-ltb, cases_lt, ne_eqb}
use Rattle.std.proofs.lemmas.Bool.Decides.{eqb_tells}
use Rattle.compact_values.specs.Compact.{SpellsCompact}
use Rattle.compact_values.specs.Ids.{SpellsExGuid}
use Rattle.compact_values.specs.Sequences.{◌▹◌, Begins, SpellsByte}
use Rattle.compact_values.specs.Taking.{take_compact, take_byte, take_exguid, take_both, if_some}
use Rattle.compact_values.specs.declared.ids.ExGuid.{ExGuid}
use Rattle.compact_values.proofs.LittleEndian.{IsBytes}
use Rattle.compact_values.proofs.Takes.{takes_compact, takes_byte, takes_exguid, takes_both, Gets, gets_some}
use Rattle.stream_objects.specs.declared.tree.Tree.{Tree}
use Rattle.stream_objects.specs.Objects.{HasFields, HasOne, One, start_of, children_of, fields_of}
use Rattle.stream_objects.specs.ObjectFields.{single}
use Rattle.stream_objects.specs.Parts.{IsFirstBroken}
use Rattle.stream_objects.proofs.Broken.{Judges}
use Rattle.stream_objects.proofs.Children.{single_some, single_none, simple_gets, simple_again, compound_gets, compound_again, IsBytes-fields}
use Rattle.doc_model.specs.wire.Knowledges.{SaysKnowledge}
use Rattle.doc_model.specs.readers.KnowledgeSites as knowledges
use Rattle.doc_model.specs.readers.ElementSites as elements
use Rattle.doc_model.specs.wire.Requests.{SubRequestFields, PutFields, AllocateFields, first_knowledge, IsKnown, Holds, IsSub, is_put}
use Rattle.doc_model.specs.readers.RequestSites.{Site, sub_request, known, put, allocate, packed, HoldsOnce, InOwnForm, site_start, sub_row, known_sites, held_sites, sites_behind, sub_sites}
use Rattle.doc_model.specs.declared.knowledge.Knowledge.{Knowledge}
use Rattle.doc_model.specs.declared.knowledge.Range.{Range}
use Rattle.doc_model.specs.declared.request.WireSub.{WireSub}
use Rattle.doc_model.specs.declared.request.WireKind.{WireKind}
use Rattle.doc_model.specs.declared.request.WireKind.TheVariants.{Access, Pull, Put, Draw, Unknown}
use Rattle.data_elements.specs.KnowledgeReading.{knowledge_at}
use Rattle.data_elements.proofs.KnowledgeLaws.{judges_knowledge, again_knowledge}
use Rattle.wire_requests.specs.RequestReading.{knowledge_of, known_at, pull_of, pull_at, put_row, put_of, put_fields_at, put_in, put_at, allocate_row, draw_of, allocate_at, draw_in, draw_at, what_at, sub_of, sub_with, sub_at}

-- ---- rows of fields

abbrev SubRow : ℕ × (ℕ × ℕ) → List ℕ → Type 0
SubRow = SpellsCompact ▹ SpellsCompact ▹ SpellsCompact

abbrev PutRow : ExGuid × (ExGuid × ℕ) → List ℕ → Type 0
PutRow = SpellsExGuid ▹ SpellsExGuid ▹ SpellsByte

abbrev AllocateRow : ℕ × ℕ → List ℕ → Type 0
AllocateRow = SpellsCompact ▹ SpellsByte

abbrev take_sub : List ℕ → Option ((ℕ × (ℕ × ℕ)) × List ℕ)
take_sub = take_both take_compact (take_both take_compact take_compact)

abbrev take_put : List ℕ → Option ((ExGuid × (ExGuid × ℕ)) × List ℕ)
take_put = take_both take_exguid (take_both take_exguid take_byte)

abbrev take_allocate : List ℕ → Option ((ℕ × ℕ) × List ℕ)
take_allocate = take_both take_compact take_byte

gets_sub : Gets (Begins SubRow) (λ b. if_some (take_sub b))
gets_sub =
    gets_some SubRow take_sub
    (takes_both SpellsCompact (SpellsCompact ▹ SpellsCompact) take_compact (take_both take_compact take_compact) takes_compact
    (takes_both SpellsCompact SpellsCompact take_compact take_compact takes_compact takes_compact))

gets_put : Gets (Begins PutRow) (λ b. if_some (take_put b))
gets_put =
    gets_some PutRow take_put
    (takes_both SpellsExGuid (SpellsExGuid ▹ SpellsByte) take_exguid (take_both take_exguid take_byte) takes_exguid
    (takes_both SpellsExGuid SpellsByte take_exguid take_byte takes_exguid takes_byte))

gets_allocate : Gets (Begins AllocateRow) (λ b. if_some (take_allocate b))
gets_allocate = gets_some AllocateRow take_allocate (takes_both SpellsCompact SpellsByte take_compact take_byte takes_compact takes_byte)

module _ (input : List ℕ) (fits : IsBytes input) where
  abbrev pub Own : Site → Type 0
  Own = InOwnForm input

  sub_found : (t : Tree) (x : ℕ × (ℕ × ℕ)) → sub_row input t ≡ Some x → HasFields true (Begins SubRow) input t x
  sub_found t x e = compound_gets (Begins SubRow) (λ b. if_some (take_sub b)) gets_sub input t (IsBytes-fields input t fits) x e

  pub sub_again : (t : Tree) (x : ℕ × (ℕ × ℕ)) → HasFields true (Begins SubRow) input t x → sub_row input t ≡ Some x
  sub_again t x h = compound_again (Begins SubRow) (λ b. if_some (take_sub b)) gets_sub input t (IsBytes-fields input t fits) x h

  put_found : (t : Tree) (x : ExGuid × (ExGuid × ℕ)) → put_row input t ≡ Some x → PutFields input t x
  put_found t x e = gets_put.found (fields_of input t) x (IsBytes-fields input t fits) e

  put_again : (t : Tree) (x : ExGuid × (ExGuid × ℕ)) → PutFields input t x → put_row input t ≡ Some x
  put_again t x h = gets_put.again (fields_of input t) x h

  allocate_found : (t : Tree) (x : ℕ × ℕ) → allocate_row input t ≡ Some x → HasFields false (Begins AllocateRow) input t x
  allocate_found t x e = simple_gets (Begins AllocateRow) (λ b. if_some (take_allocate b)) gets_allocate input t (IsBytes-fields input t fits) x e

  allocate_again : (t : Tree) (x : ℕ × ℕ) → HasFields false (Begins AllocateRow) input t x → allocate_row input t ≡ Some x
  allocate_again t x h = simple_again (Begins AllocateRow) (λ b. if_some (take_allocate b)) gets_allocate input t (IsBytes-fields input t fits) x h

  -- ---- the parts of knowledge and of a package

  all_known : (ps : List knowledges.Site) → AllByRecursion (knowledges.InOwnForm input) ps → AllByRecursion Own (map known ps)
  all_known [] h = tt
  all_known (p ∷ ps) h = (h.0, all_known ps h.1)

  broken_known : (ps : List knowledges.Site) (place : ℕ) → IsFirstBroken (knowledges.InOwnForm input) knowledges.site_start ps place → IsFirstBroken Own site_start (map known ps) place
  broken_known [] place h = h
  broken_known (p ∷ ps) place (inl h) = inl h
  broken_known (p ∷ ps) place (inr h) = inr (h.0, broken_known ps place h.1)

  pub all_packed : (ps : List elements.Site) → AllByRecursion (elements.InOwnForm input) ps → AllByRecursion Own (map packed ps)
  all_packed [] h = tt
  all_packed (p ∷ ps) h = (h.0, all_packed ps h.1)

  pub broken_packed : (ps : List elements.Site) (place : ℕ) → IsFirstBroken (elements.InOwnForm input) elements.site_start ps place → IsFirstBroken Own site_start (map packed ps) place
  broken_packed [] place h = h
  broken_packed (p ∷ ps) place (inl h) = inl h
  broken_packed (p ∷ ps) place (inr h) = inr (h.0, broken_packed ps place h.1)

  -- ---- what a sub-request of a kind holds

  -- it is held, and a put is not behind four others
  abbrev pub HeldBehind : ℕ → Tree → ℕ → WireKind → Type 0
  HeldBehind m t kind what = Holds input t kind what × (is_put what ≡ true → m < 4)

  abbrev JudgesHeld : ℕ → Tree → ℕ → Result WireKind ℕ → Type 0
  JudgesHeld m t kind r = Judges Own site_start (HeldBehind m t kind) (held_sites input m t kind) r

  -- What must be there once is, and the rest decides; or it isn't.
  abbrev Judged : ℕ → Tree → ℕ → Result WireKind ℕ → Type 0
  Judged m t kind r = (HoldsOnce kind t × JudgesHeld m t kind r) ⊎ ((¬ HoldsOnce kind t) × (r ≡ Err (start_of t)))

  -- a query
  judges_known : (m : ℕ) (t : Tree) → HasOne 0x51 t → (o : Option Tree) → first_knowledge t ≡ o → Judges Own site_start (HeldBehind m t 2) (known_sites input o) (pull_of (known_at input o))
  judges_known m t one (Some u) e = go (knowledge_at input u) (judges_knowledge input fits u) where
    go : (r : Result (List Range) ℕ) → Judges (knowledges.InOwnForm input) knowledges.site_start (SaysKnowledge input u) (knowledges.knowledge_sites input u) r
        → Judges Own site_start (HeldBehind m t 2) (map known (knowledges.knowledge_sites input u)) (pull_of (knowledge_of r))
    go (Ok ranges) j =
        let is : IsKnown input (first_knowledge t) (record { ranges = ranges }) = subst (λ (o : Option Tree). IsKnown input o (record { ranges = ranges })) (sym e) j.0 in
        (((refl, one, is), λ y. absurd cc), all_known (knowledges.knowledge_sites input u) j.1)
    go (Err place) j = broken_known (knowledges.knowledge_sites input u) place j
  judges_known m t one None e =
      let is : IsKnown input (first_knowledge t) (record { ranges = [] }) = subst (λ (o : Option Tree). IsKnown input o (record { ranges = [] })) (sym e) refl in
      (((refl, one, is), λ y. absurd cc), tt)

  judged_pull : (m : ℕ) (t : Tree) → Judged m t 2 (pull_at input t)
  unfolding pull_at
  judged_pull m t = go (single (children_of 0x51 t)) refl where
    go : (o : Option Tree) → single (children_of 0x51 t) ≡ o → Judged m t 2 (if is_some o then pull_of (known_at input (first_knowledge t)) else Err (start_of t))
    go (Some c) e =
        let one : HasOne 0x51 t = (c, single_some (children_of 0x51 t) c e) in
        let once : HoldsOnce 2 t = record { query = λ k. one; put = λ k. absurd (omega (arith, k)); allocate = λ k. absurd (omega (arith, k)) } in
        inl (once, judges_known m t one (first_knowledge t) refl)
    go None e = inr ((λ h. let one = h.query refl in single_none (children_of 0x51 t) e one.0 one.1), refl)

  -- a put
  abbrev JudgesPut : ℕ → Tree → Result WireKind ℕ → Type 0
  JudgesPut m c r = Judges Own site_start (λ what. (m < 4) × ((x : ExGuid × (ExGuid × ℕ)) × PutFields input c x × (what ≡ Put x.0 x.1.0 x.1.1))) (put m c ∷ []) r

  judges_put : (m : ℕ) (c : Tree) → JudgesPut m c (put_fields_at input m c)
  unfolding put_fields_at
  judges_put m c =
      elim (cases_lt m 4) [
        | inl lt ↦ rw (lt-ltb m 4 lt) (go lt (put_row input c) refl)
        | inr ge ↦ rw (le-ltb m 4 ge) (inl (λ own. absurd (omega (arith, own.0)), refl))
      ] where
        go : m < 4 → (o : Option (ExGuid × (ExGuid × ℕ))) → put_row input c ≡ o → JudgesPut m c (put_of (start_of c) o)
        go lt (Some x) e = let h = put_found c x e in ((lt, (x, h, refl)), ((lt, (x, h)), tt))
        go lt None e = inl (λ own. let some = put_again c own.1.0 own.1.1 in absurd cc, refl)

  held_put : (m : ℕ) (t c : Tree) → children_of 0x5A t ≡ c ∷ [] → (r : Result WireKind ℕ) → JudgesPut m c r → JudgesHeld m t 5 r
  held_put m t c one (Ok what) j =
      let x = j.0.1.0 in
      let holds : Holds input t 5 (Put x.0 x.1.0 x.1.1) = (refl, (c, one, j.0.1.1)) in
      ((subst (Holds input t 5) (sym j.0.1.2) holds, λ y. j.0.0), subst (λ (cs : List Tree). AllByRecursion Own (map (put m) cs)) (sym one) j.1)
  held_put m t c one (Err place) j = subst (λ (cs : List Tree). IsFirstBroken Own site_start (map (put m) cs) place) (sym one) j

  judged_put : (m : ℕ) (t : Tree) → Judged m t 5 (put_at input m t)
  unfolding put_at
  judged_put m t = go (single (children_of 0x5A t)) refl where
    go : (o : Option Tree) → single (children_of 0x5A t) ≡ o → Judged m t 5 (put_in input m (start_of t) o)
    go (Some c) e =
        let one = single_some (children_of 0x5A t) c e in
        let once : HoldsOnce 5 t = record { query = λ k. absurd (omega (arith, k)); put = λ k. (c, one); allocate = λ k. absurd (omega (arith, k)) } in
        inl (once, held_put m t c one (put_fields_at input m c) (judges_put m c))
    go None e = inr ((λ h. let one = h.put refl in single_none (children_of 0x5A t) e one.0 one.1), refl)

  -- a draw
  abbrev JudgesAllocate : Tree → Result WireKind ℕ → Type 0
  JudgesAllocate c r = Judges Own site_start (λ what. (count : ℕ) × AllocateFields input c count × (what ≡ Draw count)) (allocate c ∷ []) r

  judges_allocate : (c : Tree) → JudgesAllocate c (allocate_at input c)
  unfolding allocate_at
  judges_allocate c = go (allocate_row input c) refl where
    go : (o : Option (ℕ × ℕ)) → allocate_row input c ≡ o → JudgesAllocate c (draw_of (start_of c) o)
    go (Some x) e = let h = allocate_found c x e in ((x.0, (x.1, h), refl), ((x.0, (x.1, h)), tt))
    go None e = inl (λ own. let some = allocate_again c (own.0, own.1.0) own.1.1 in absurd cc, refl)

  held_draw : (m : ℕ) (t c : Tree) → children_of 0x80 t ≡ c ∷ [] → (r : Result WireKind ℕ) → JudgesAllocate c r → JudgesHeld m t 11 r
  held_draw m t c one (Ok what) j =
      let holds : HeldBehind m t 11 (Draw j.0.0) = ((refl, (c, one, j.0.1)), λ y. absurd cc) in
      (subst (HeldBehind m t 11) (sym j.0.2) holds, subst (λ (cs : List Tree). AllByRecursion Own (map allocate cs)) (sym one) j.1)
  held_draw m t c one (Err place) j = subst (λ (cs : List Tree). IsFirstBroken Own site_start (map allocate cs) place) (sym one) j

  judged_draw : (m : ℕ) (t : Tree) → Judged m t 11 (draw_at input t)
  unfolding draw_at
  judged_draw m t = go (single (children_of 0x80 t)) refl where
    go : (o : Option Tree) → single (children_of 0x80 t) ≡ o → Judged m t 11 (draw_in input (start_of t) o)
    go (Some c) e =
        let one = single_some (children_of 0x80 t) c e in
        let once : HoldsOnce 11 t = record { query = λ k. absurd (omega (arith, k)); put = λ k. absurd (omega (arith, k)); allocate = λ k. (c, one) } in
        inl (once, held_draw m t c one (allocate_at input c) (judges_allocate c))
    go None e = inr ((λ h. let one = h.allocate refl in single_none (children_of 0x80 t) e one.0 one.1), refl)

  -- each kind
  judged_access : (m : ℕ) (t : Tree) → Judged m t 1 (Ok Access)
  judged_access m t =
      let once : HoldsOnce 1 t = record { query = λ k. absurd (omega (arith, k)); put = λ k. absurd (omega (arith, k)); allocate = λ k. absurd (omega (arith, k)) } in
      inl (once, ((refl, λ y. absurd cc), tt))

  judged_unknown : (m : ℕ) (t : Tree) (kind : ℕ) → (kind ≡ 1 → ⊥) → (kind ≡ 2 → ⊥) → (kind ≡ 5 → ⊥) → (kind ≡ 11 → ⊥) → Judged m t kind (Ok Unknown)
  judged_unknown m t kind a b c d =
      let once : HoldsOnce kind t = record { query = λ k. absurd (b k); put = λ k. absurd (c k); allocate = λ k. absurd (d k) } in
      let none : held_sites input m t kind ≡ [] = rw (ne_eqb kind 2 b, ne_eqb kind 5 c, ne_eqb kind 11 d) refl in
      inl (once, (((a, b, c, d), λ y. absurd cc), subst (AllByRecursion Own) (sym none) tt))

  what_unknown : (m : ℕ) (t : Tree) (kind : ℕ) → (kind ≡ 1 → ⊥) → (kind ≡ 2 → ⊥) → (kind ≡ 5 → ⊥) → (kind ≡ 11 → ⊥) → what_at input m t kind ≡ Ok Unknown
  unfolding what_at
  what_unknown m t kind a b c d = rw (ne_eqb kind 1 a, ne_eqb kind 2 b, ne_eqb kind 5 c, ne_eqb kind 11 d) refl

  judged : (m : ℕ) (t : Tree) (kind : ℕ) → Judged m t kind (what_at input m t kind)
  unfolding what_at
  judged m t kind =
      elim (eqb_tells kind 1) [
        | inl y ↦ subst (λ (k : ℕ). Judged m t k (what_at input m t k)) (sym y.1) (judged_access m t)
        | inr a ↦
            elim (eqb_tells kind 2) [
              | inl y ↦ subst (λ (k : ℕ). Judged m t k (what_at input m t k)) (sym y.1) (judged_pull m t)
              | inr b ↦
                  elim (eqb_tells kind 5) [
                    | inl y ↦ subst (λ (k : ℕ). Judged m t k (what_at input m t k)) (sym y.1) (judged_put m t)
                    | inr c ↦
                        elim (eqb_tells kind 11) [
                          | inl y ↦ subst (λ (k : ℕ). Judged m t k (what_at input m t k)) (sym y.1) (judged_draw m t)
                          | inr d ↦ subst (Judged m t kind) (sym (what_unknown m t kind a.1 b.1 c.1 d.1)) (judged_unknown m t kind a.1 b.1 c.1 d.1)
                        ]
                  ]
            ]
      ]

  -- ---- a sub-request

  -- it says this, with so many sub-requests and puts before it
  pub record SubBehind (n m : ℕ) (t : Tree) (s : WireSub) : Type 0 where
    pub is : IsSub input t s
    pub few : n < 64
    pub few_puts : is_put s.what ≡ true → m < 4

  abbrev JudgesWith : ℕ → ℕ → Tree → Option (ℕ × (ℕ × ℕ)) → Result WireSub ℕ → Type 0
  JudgesWith n m t o r = Judges Own site_start (SubBehind n m t) (sub_request n t ∷ sites_behind input m t o) r

  judges_held : (n m : ℕ) (t : Tree) → n < 64 → (id kind priority : ℕ) → SubRequestFields input t id kind → HoldsOnce kind t → (r : Result WireKind ℕ) → JudgesHeld m t kind r
      → JudgesWith n m t (Some (id, (kind, priority))) (sub_of id kind r)
  judges_held n m t lt id kind priority fields once (Ok what) j = (
    record { is = (fields, j.0.0); few = lt; few_puts = j.0.1 },
    ((lt, (id, kind, fields, once)), j.1),
  )
  judges_held n m t lt id kind priority fields once (Err place) j = inr ((lt, (id, kind, fields, once)), j)

  one_kind : (t : Tree) (x y : ℕ × (ℕ × ℕ)) → sub_row input t ≡ Some x → sub_row input t ≡ Some y → x.1.0 ≡ y.1.0
  one_kind t x y e f =
      let same : x ≡ y = cc in
      ap (λ (z : ℕ × (ℕ × ℕ)). z.1.0) same

  judges_with : (n m : ℕ) (t : Tree) → n < 64 → (o : Option (ℕ × (ℕ × ℕ))) → sub_row input t ≡ o → JudgesWith n m t o (sub_with input m t o)
  judges_with n m t lt (Some (id, (kind, priority))) e =
      let fields : SubRequestFields input t id kind = (priority, sub_found t (id, (kind, priority)) e) in
      elim (judged m t kind) [
        | inl y ↦ judges_held n m t lt id kind priority fields y.0 (what_at input m t kind) y.1
        | inr y ↦ rw y.1 (inl (
          λ own.
              let some = sub_again t (own.1.0, (own.1.1, own.1.2.0)) own.1.2.1 in
              let same = one_kind t (own.1.0, (own.1.1, own.1.2.0)) (id, (kind, priority)) some e in
              y.0 (subst (λ (k : ℕ). HoldsOnce k t) same own.1.3),
          refl,
        ))
      ]
  judges_with n m t lt None e = inl (λ own. let some = sub_again t (own.1.0, (own.1.1, own.1.2.0)) own.1.2.1 in absurd cc, refl)

  abbrev pub JudgesSub : ℕ → ℕ → Tree → Result WireSub ℕ → Type 0
  JudgesSub n m t r = Judges Own site_start (SubBehind n m t) (sub_sites input n m t) r

  pub judges_sub : (n m : ℕ) (t : Tree) → JudgesSub n m t (sub_at input n m t)
  unfolding sub_at
  judges_sub n m t =
      elim (cases_lt n 64) [
        | inl lt ↦ rw (lt-ltb n 64 lt) (judges_with n m t lt (sub_row input t) refl)
        | inr ge ↦ rw (le-ltb n 64 ge) (inl (λ own. absurd (omega (arith, own.0)), refl))
      ]

  -- ---- what is in form is read

  again_known : (o : Option Tree) (k : Knowledge) → IsKnown input o k → known_at input o ≡ Ok k
  again_known (Some t) k h = ap knowledge_of (again_knowledge input fits t k.ranges h)
  again_known None k h = ap (λ (l : List Range). Ok (record { ranges = l })) (sym h)

  again_pull : (t : Tree) (k : Knowledge) → HasOne 0x51 t → IsKnown input (first_knowledge t) k → pull_at input t ≡ Ok (Pull k)
  unfolding pull_at
  again_pull t k one h = rw (ap single one.1) (ap pull_of (again_known (first_knowledge t) k h))

  again_put : (m : ℕ) (t : Tree) (x : ExGuid × (ExGuid × ℕ)) → m < 4 → One 0x5A (PutFields input) t x → put_at input m t ≡ Ok (Put x.0 x.1.0 x.1.1)
  unfolding put_at put_fields_at
  again_put m t x lt h = ap (put_in input m (start_of t)) (ap single h.1) ∙ rw (lt-ltb m 4 lt) (ap (put_of (start_of h.0)) (put_again h.0 x h.2))

  again_draw : (t : Tree) (count : ℕ) → One 0x80 (AllocateFields input) t count → draw_at input t ≡ Ok (Draw count)
  unfolding draw_at allocate_at
  again_draw t count h = ap (draw_in input (start_of t)) (ap single h.1) ∙ ap (draw_of (start_of h.0)) (allocate_again h.0 (count, h.2.0) h.2.1)

  again_what : (m : ℕ) (t : Tree) (kind : ℕ) (what : WireKind) → HeldBehind m t kind what → what_at input m t kind ≡ Ok what
  unfolding what_at
  again_what m t kind Access h = subst (λ (k : ℕ). what_at input m t k ≡ Ok Access) (sym h.0) refl
  again_what m t kind (Pull knowledge) h = subst (λ (k : ℕ). what_at input m t k ≡ Ok (Pull knowledge)) (sym h.0.0) (again_pull t knowledge h.0.1 h.0.2)
  again_what m t kind (Put index expected flags) h = subst (λ (k : ℕ). what_at input m t k ≡ Ok (Put index expected flags)) (sym h.0.0) (again_put m t (index, (expected, flags)) (h.1 refl) h.0.1)
  again_what m t kind (Draw count) h = subst (λ (k : ℕ). what_at input m t k ≡ Ok (Draw count)) (sym h.0.0) (again_draw t count h.0.1)
  again_what m t kind Unknown h = what_unknown m t kind h.0.0 h.0.1 h.0.2 h.0.3

  pub again_sub : (n m : ℕ) (t : Tree) (s : WireSub) → SubBehind n m t s → sub_at input n m t ≡ Ok s
  unfolding sub_at
  again_sub n m t s h =
      rw (lt-ltb n 64 h.few, sub_again t (s.id, (s.kind, h.is.0.0)) h.is.0.1) (ap (sub_of s.id s.kind) (again_what m t s.kind s.what (h.is.1, h.few_puts)))

  -- it is a put exactly by its kind
  pub put_kind : (t : Tree) (kind : ℕ) (what : WireKind) → Holds input t kind what → (kind == 5) ≡ is_put what
  put_kind t kind Access h = ap (λ (k : ℕ). k == 5) h
  put_kind t kind (Pull knowledge) h = ap (λ (k : ℕ). k == 5) h.0
  put_kind t kind (Put index expected flags) h = ap (λ (k : ℕ). k == 5) h.0
  put_kind t kind (Draw count) h = ap (λ (k : ℕ). k == 5) h.0
  put_kind t kind Unknown h = ne_eqb kind 5 h.2
