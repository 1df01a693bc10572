-- What is read of the objects that a sub-response holds is what they say, or where the first of them that isn't in its form
-- starts.
use Rattle.std.proofs.Common.{◌≡◌, ℕ, ◌<◌, ◌^◌, false, List, [], ◌∷◌, map, Option, Some, None, Result, Ok, Err, inl, inr, refl, sym, ap, subst, ◌∙◌, eq-eqb, arith}
use Rattle.std.specs.Prelude.{if◌then◌else◌}
use Rattle.std.specs.List.{AllByRecursion, flat_map}
use Rattle.std.proofs.lemmas.Bool.{cases_Bool}
use Rattle.std.proofs.lemmas.Bool.Decides.{eqb_tells}
use Rattle.compact_values.specs.Compact.{SpellsCompact, little_endian}
use Rattle.compact_values.specs.Ids.{SpellsGuid, SpellsExGuid}
use Rattle.compact_values.specs.Reading.{number_of}
use Rattle.compact_values.specs.Sequences.{◌▹◌, SpellsByte}
use Rattle.compact_values.specs.Taking.{take_compact, take_byte, take_guid, take_exguid, take_both}
use Rattle.compact_values.specs.declared.guid.Guid.{Guid}
use Rattle.compact_values.specs.declared.ids.ExGuid.{ExGuid}
use Rattle.compact_values.proofs.LittleEndian.{IsBytes, number_of-little_endian, little_endian-number_of, number_of_below}
use Rattle.compact_values.proofs.Takes.{Takes, takes_compact, takes_byte, takes_guid, takes_exguid, takes_both, Gets}
use Rattle.stream_objects.specs.declared.tree.Tree.{Tree}
use Rattle.stream_objects.specs.Objects.{HasFields, One, start_of, children_of}
use Rattle.stream_objects.specs.ObjectFields.{single}
use Rattle.stream_objects.specs.Parts.{IsFirstBroken}
use Rattle.stream_objects.proofs.Broken.{Judges, none_broken, one_broken}
use Rattle.stream_objects.proofs.Children.{simple_gets, simple_again, IsBytes-fields}
use Rattle.doc_model.specs.wire.Knowledges.{SaysKnowledge, IsKnowledge}
use Rattle.doc_model.specs.readers.KnowledgeSites.{guid_row}
use Rattle.doc_model.specs.readers.KnowledgeSites as knowledges
use Rattle.doc_model.specs.wire.SeenResponses.{cell_error, hresult_error, SpellsNumber, ErrorNumber, ErrorFields, IsCellError, IsSuccess, IsAccess, QueryFields, AllocateFields}
use Rattle.doc_model.specs.readers.ResponseSites.{Site, failure, failure_number, access, success, success_number, query, known, allocate, InOwnForm, site_start, failure_sites, success_sites, access_sites, known_sites}
use Rattle.doc_model.specs.declared.knowledge.Knowledge.{Knowledge}
use Rattle.doc_model.specs.declared.knowledge.Range.{Range}
use Rattle.data_elements.specs.Answers.{Gives, IsKnowledgeResult}
use Rattle.data_elements.specs.Checking.{or_broken}
use Rattle.data_elements.specs.KnowledgeReading.{knowledge_at}
use Rattle.data_elements.specs.Rows.{has_no_fields}
use Rattle.data_elements.specs.declared.fault.ElementFault.{ElementFault}
use Rattle.data_elements.specs.declared.fault.ElementFault.TheVariants as faults
use Rattle.data_elements.proofs.KnowledgeLaws.{judges_knowledge, again_knowledge}
use Rattle.data_elements.proofs.RowLaws.{row_found, row_again, compound_row_found, compound_row_again, no_fields, no_fields_again}
use Rattle.wire_responses.specs.ResponseReading.{four_bytes, number_row, is_guid, number_at, if_zero, zero_at, in_child, failure_at, success_at, access_at, query_row, if_whole, query_at, allocate_row, allocate_at, knowledge_of, known_at}
use Rattle.wire_responses.proofs.Judging.{judges_map, judges_in_child, again_in_child}

-- ---- rows of fields

number_gets : Gets SpellsNumber four_bytes
number_gets = record {
  found = found;
  again = λ b v s. ap four_bytes s.bytes_are ∙ ap Some (number_of-little_endian 4 v (omega (arith, s.range)));
} where
  found : (b : List ℕ) (v : ℕ) → IsBytes b → four_bytes b ≡ Some v → SpellsNumber v b
  found [] v fits e = absurd cc
  found (a ∷ []) v fits e = absurd cc
  found (a ∷ b ∷ []) v fits e = absurd cc
  found (a ∷ b ∷ c ∷ []) v fits e = absurd cc
  found (a ∷ b ∷ c ∷ d ∷ x ∷ xs) v fits e = absurd cc
  found (a ∷ b ∷ c ∷ d ∷ []) v fits e =
      let bytes = a ∷ b ∷ c ∷ d ∷ [] in
      let small : number_of bytes < 256 ^ 4 = number_of_below bytes fits in
      let same : number_of bytes ≡ v = cc in
      record { range = omega (arith, small, same); bytes_are = subst (λ (n : ℕ). bytes ≡ little_endian 4 n) same (sym (little_endian-number_of bytes fits)) }

takes_query : Takes (SpellsExGuid ▹ SpellsByte) (take_both take_exguid take_byte)
takes_query = takes_both SpellsExGuid SpellsByte take_exguid take_byte takes_exguid takes_byte

takes_allocate : Takes (SpellsGuid ▹ SpellsCompact ▹ SpellsCompact) (take_both take_guid (take_both take_compact take_compact))
takes_allocate =
    takes_both SpellsGuid (SpellsCompact ▹ SpellsCompact) take_guid (take_both take_compact take_compact) takes_guid (takes_both SpellsCompact SpellsCompact take_compact take_compact takes_compact takes_compact)

module _ (input : List ℕ) (fits : IsBytes input) where
  abbrev Own : Site → Type 0
  Own = InOwnForm input

  number_found : (t : Tree) (n : ℕ) → number_row input t ≡ Some n → ErrorNumber input t n
  unfolding number_row
  number_found t n e = simple_gets SpellsNumber four_bytes number_gets input t (IsBytes-fields input t fits) n e

  number_again : (t : Tree) (n : ℕ) → ErrorNumber input t n → number_row input t ≡ Some n
  unfolding number_row
  number_again t n h = simple_again SpellsNumber four_bytes number_gets input t (IsBytes-fields input t fits) n h

  guid_found : (t : Tree) (g : Guid) → guid_row input t ≡ Some g → ErrorFields input t g
  guid_found t g e = compound_row_found input fits SpellsGuid take_guid takes_guid t g e

  guid_again : (t : Tree) (g : Guid) → ErrorFields input t g → guid_row input t ≡ Some g
  guid_again t g h = compound_row_again input fits SpellsGuid take_guid takes_guid t g h

  query_found : (t : Tree) (x : ExGuid × ℕ) → query_row input t ≡ Some x → HasFields false (SpellsExGuid ▹ SpellsByte) input t x
  unfolding query_row
  query_found t x e = row_found input fits (SpellsExGuid ▹ SpellsByte) (take_both take_exguid take_byte) takes_query t x e

  query_again : (t : Tree) (x : ExGuid × ℕ) → HasFields false (SpellsExGuid ▹ SpellsByte) input t x → query_row input t ≡ Some x
  unfolding query_row
  query_again t x h = row_again input fits (SpellsExGuid ▹ SpellsByte) (take_both take_exguid take_byte) takes_query t x h

  allocate_found : (t : Tree) (x : Guid × (ℕ × ℕ)) → allocate_row input t ≡ Some x → AllocateFields input t x
  unfolding allocate_row
  allocate_found t x e = row_found input fits (SpellsGuid ▹ SpellsCompact ▹ SpellsCompact) (take_both take_guid (take_both take_compact take_compact)) takes_allocate t x e

  allocate_again : (t : Tree) (x : Guid × (ℕ × ℕ)) → AllocateFields input t x → allocate_row input t ≡ Some x
  unfolding allocate_row
  allocate_again t x h = row_again input fits (SpellsGuid ▹ SpellsCompact ▹ SpellsCompact) (take_both take_guid (take_both take_compact take_compact)) takes_allocate t x h

  -- ---- errors

  judges_number : (t : Tree) → Judges Own site_start (ErrorNumber input t) (failure_number t ∷ []) (number_at input t)
  judges_number t = go (number_row input t) refl where
    go : (o : Option ℕ) → number_row input t ≡ o → Judges Own site_start (ErrorNumber input t) (failure_number t ∷ []) (or_broken (start_of t) o)
    go (Some n) e = let h = number_found t n e in (h, ((n, h), tt))
    go None e = inl (λ own. let some = number_again t own.0 own.1 in absurd cc, refl)

  judges_zero : (t : Tree) → Judges Own site_start (λ (u : Unit {0}). ErrorNumber input t 0) (success_number t ∷ []) (zero_at input t)
  judges_zero t = go (number_row input t) refl where
    go : (o : Option ℕ) → number_row input t ≡ o → Judges Own site_start (λ (u : Unit {0}). ErrorNumber input t 0) (success_number t ∷ []) (if_zero (start_of t) o)
    go (Some n) e =
        elim (eqb_tells n 0) [
          | inl y ↦ let h = subst (ErrorNumber input t) y.1 (number_found t n e) in rw y.0 (h, (h, tt))
          | inr m ↦ rw m.0 (inl (λ own. let some = number_again t 0 own in let same : n ≡ 0 = cc in m.1 same, refl))
        ]
    go None e = inl (λ own. let some = number_again t 0 own in absurd cc, refl)

  -- an object with a GUID, and what it holds
  module _ {V : Type 0} (wanted : Guid) (t : Tree) (p : Site) (ps : List Site) (starts : start_of t ≡ site_start p) (Holds : V → Type 0) where
    judges_guid : (Own p → ErrorFields input t wanted) → (r : Result V ℕ) → (ErrorFields input t wanted → Judges Own site_start Holds (p ∷ ps) r)
        → Judges Own site_start (λ v. ErrorFields input t wanted × Holds v) (p ∷ ps) (if is_guid wanted (guid_row input t) then r else Err (start_of t))
    judges_guid back r inside = go (guid_row input t) refl where
      go : (o : Option Guid) → guid_row input t ≡ o → Judges Own site_start (λ v. ErrorFields input t wanted × Holds v) (p ∷ ps) (if is_guid wanted o then r else Err (start_of t))
      go (Some g) e =
          elim (eqb_tells g.number wanted.number) [
            | inl y ↦
                let same : g ≡ wanted = ap (λ (n : ℕ). record { number = n }) y.1 in
                let h = subst (ErrorFields input t) same (guid_found t g e) in
                rw y.0 (judges_map Own site_start Holds (λ v. ErrorFields input t wanted × Holds v) (p ∷ ps) (λ v is. (h, is)) r (inside h))
            | inr n ↦ rw n.0 (inl (λ own. let some = guid_again t wanted (back own) in let same : g ≡ wanted = cc in n.1 (ap (λ (x : Guid). x.number) same), starts))
          ]
      go None e = inl (λ own. let some = guid_again t wanted (back own) in absurd cc, starts)

  guid_is : {V : Type 0} (wanted : Guid) (t : Tree) (r : Result V ℕ) → ErrorFields input t wanted → (if is_guid wanted (guid_row input t) then r else Err (start_of t)) ≡ r
  guid_is wanted t r h = rw (guid_again t wanted h, eq-eqb wanted.number wanted.number refl) refl

  pub judges_failure : (t : Tree) → Judges Own site_start (IsCellError input t) (failure_sites t) (failure_at input t)
  unfolding failure_at
  judges_failure t =
      judges_guid cell_error t (failure t) (flat_map (λ c. failure_number c ∷ []) (children_of 0x66 t)) refl (One 0x66 (ErrorNumber input) t) (λ own. own.0)
      (in_child (start_of t) (number_at input) (single (children_of 0x66 t)))
      (λ h. judges_in_child Own site_start t (failure t) 0x66 (λ c. failure_number c ∷ []) (ErrorNumber input) (number_at input) refl (λ one. (h, one)) (λ own. own.1) judges_number)

  pub again_failure : (t : Tree) (n : ℕ) → IsCellError input t n → failure_at input t ≡ Ok n
  unfolding failure_at
  again_failure t n h =
      guid_is cell_error t (in_child (start_of t) (number_at input) (single (children_of 0x66 t))) h.0
      ∙ again_in_child t 0x66 (start_of t) (ErrorNumber input) (number_at input) n (λ c is. ap (or_broken (start_of c)) (number_again c n is)) h.1

  judges_success : (t : Tree) → Judges Own site_start (IsSuccess input t) (success_sites t) (success_at input t)
  unfolding success_at
  judges_success t =
      judges_guid hresult_error t (success t) (flat_map (λ c. success_number c ∷ []) (children_of 0x52 t)) refl (λ (u : Unit {0}). One 0x52 (ErrorNumber input) t 0) (λ own. own.0)
      (in_child (start_of t) (zero_at input) (single (children_of 0x52 t)))
      (λ h. judges_in_child Own site_start t (success t) 0x52 (λ c. success_number c ∷ []) (λ c (u : Unit {0}). ErrorNumber input c 0) (zero_at input) refl (λ one. (h, one)) (λ own. own.1) judges_zero)

  again_success : (t : Tree) (u : Unit {0}) → IsSuccess input t u → success_at input t ≡ Ok u
  unfolding success_at
  again_success t u h =
      guid_is hresult_error t (in_child (start_of t) (zero_at input) (single (children_of 0x52 t))) h.0
      ∙ again_in_child t 0x52 (start_of t) (λ c (u : Unit {0}). ErrorNumber input c 0) (zero_at input) u (λ c is. ap (if_zero (start_of c)) (number_again c 0 is)) h.1

  -- ---- access

  pub judges_access : (t : Tree) → Judges Own site_start (IsAccess input t) (access_sites t) (access_at input t)
  unfolding access_at
  judges_access t =
      elim (cases_Bool (has_no_fields input t)) [
        | inl y ↦
            let h = no_fields input fits t y in
            rw y
            (judges_map Own site_start (λ (u : Unit {0}). One 0x4D (IsSuccess input) t u) (IsAccess input t) (access_sites t) (λ u one. (h, one)) (in_child (start_of t) (success_at input) (single (children_of 0x4D t)))
            (judges_in_child Own site_start t (access t) 0x4D success_sites (IsSuccess input) (success_at input) refl (λ one. (h, one)) (λ own. own.1) judges_success))
        | inr n ↦ rw n (inl (λ own. let none = no_fields_again input fits t own.0 in absurd cc, refl))
      ]

  pub again_access : (t : Tree) (u : Unit {0}) → IsAccess input t u → access_at input t ≡ Ok u
  unfolding access_at
  again_access t u h = rw (no_fields_again input fits t h.0) (again_in_child t 0x4D (start_of t) (IsSuccess input) (success_at input) u (λ c is. again_success c u is) h.1)

  -- ---- queries and numbers

  pub judges_query : (t : Tree) → Judges Own site_start (QueryFields input t) (query t ∷ []) (query_at input t)
  unfolding query_at
  judges_query t = go (query_row input t) refl where
    go : (o : Option (ExGuid × ℕ)) → query_row input t ≡ o → Judges Own site_start (QueryFields input t) (query t ∷ []) (if_whole (start_of t) o)
    go (Some x) e =
        elim (eqb_tells x.1 0) [
          | inl y ↦
              let h : QueryFields input t x.0 = subst (λ (b : ℕ). HasFields false (SpellsExGuid ▹ SpellsByte) input t (x.0, b)) y.1 (query_found t x e) in
              rw y.0 (h, ((x.0, h), tt))
          | inr n ↦ rw n.0 (inl (
            λ own.
                let some = query_again t (own.0, 0) own.1 in
                let same : x ≡ (own.0, 0) = cc in
                n.1 (ap (λ (y : ExGuid × ℕ). y.1) same),
            refl,
          ))
        ]
    go None e = inl (λ own. let some = query_again t (own.0, 0) own.1 in absurd cc, refl)

  pub again_query : (t : Tree) (i : ExGuid) → QueryFields input t i → query_at input t ≡ Ok i
  unfolding query_at
  again_query t i h = ap (if_whole (start_of t)) (query_again t (i, 0) h)

  pub judges_allocate : (t : Tree) → Judges Own site_start (AllocateFields input t) (allocate t ∷ []) (allocate_at input t)
  unfolding allocate_at
  judges_allocate t = go (allocate_row input t) refl where
    go : (o : Option (Guid × (ℕ × ℕ))) → allocate_row input t ≡ o → Judges Own site_start (AllocateFields input t) (allocate t ∷ []) (or_broken (start_of t) o)
    go (Some x) e = let h = allocate_found t x e in (h, ((x, h), tt))
    go None e = inl (λ own. let some = allocate_again t own.0 own.1 in absurd cc, refl)

  pub again_allocate : (t : Tree) (x : Guid × (ℕ × ℕ)) → AllocateFields input t x → allocate_at input t ≡ Ok x
  unfolding allocate_at
  again_allocate t x h = ap (or_broken (start_of t)) (allocate_again t x h)

  -- ---- knowledge

  all_known : (ps : List knowledges.Site) → AllByRecursion (knowledges.InOwnForm input) ps → AllByRecursion Own (map known ps)
  all_known [] h = tt
  all_known (p ∷ ps) h = (h.0, all_known ps h.1)

  broken_known : (ps : List knowledges.Site) (place : ℕ) → IsFirstBroken (knowledges.InOwnForm input) knowledges.site_start ps place → IsFirstBroken Own site_start (map known ps) place
  broken_known [] place h = h
  broken_known (p ∷ ps) place (inl h) = inl h
  broken_known (p ∷ ps) place (inr h) = inr (h.0, broken_known ps place h.1)

  pub judges_known : (t : Tree) → Judges Own site_start (IsKnowledge input t) (known_sites input t) (known_at input t)
  unfolding known_at
  judges_known t = go (knowledge_at input t) (judges_knowledge input fits t) where
    go : (r : Result (List Range) ℕ) → Judges (knowledges.InOwnForm input) knowledges.site_start (SaysKnowledge input t) (knowledges.knowledge_sites input t) r
        → Judges Own site_start (IsKnowledge input t) (known_sites input t) (knowledge_of r)
    go (Ok ranges) j = (j.0, all_known (knowledges.knowledge_sites input t) j.1)
    go (Err place) j = broken_known (knowledges.knowledge_sites input t) place j

  pub again_known : (t : Tree) (k : Knowledge) → IsKnowledge input t k → known_at input t ≡ Ok k
  unfolding known_at
  again_known t k h = ap knowledge_of (again_knowledge input fits t k.ranges h)

  -- what the reader of knowledge answers
  pub known_gives : (t : Tree) (r : Result Knowledge ElementFault) → IsKnowledgeResult input t r → Gives r (known_at input t)
  unfolding known_at
  known_gives t (Ok k) a = again_known t k a
  known_gives t (Err (faults.SchemaFault place)) b = go (knowledge_at input t) (judges_knowledge input fits t) where
    go : (r : Result (List Range) ℕ) → Judges (knowledges.InOwnForm input) knowledges.site_start (SaysKnowledge input t) (knowledges.knowledge_sites input t) r → knowledge_of r ≡ Err place
    go (Ok ranges) j = absurd (none_broken (knowledges.InOwnForm input) knowledges.site_start (knowledges.knowledge_sites input t) place j.1 b)
    go (Err n) j = ap Err (one_broken (knowledges.InOwnForm input) knowledges.site_start (knowledges.knowledge_sites input t) n place j b)
  known_gives t (Err faults.NoMemory) a = tt
  known_gives t (Err faults.TooMany) a = absurd a
