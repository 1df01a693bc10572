-- What is read of a sub-response is what it says, or where the first of its objects that isn't in its form starts.
use Rattle.std.proofs.Common.{◌≡◌, ℕ, List, [], ◌∷◌, Option, Some, None, Result, Ok, inl, refl, sym, ap, subst, ◌∙◌}
use Rattle.std.specs.List.{flat_map}
use Rattle.compact_values.specs.Compact.{SpellsCompact}
use Rattle.compact_values.specs.Sequences.{◌▹◌, SpellsByte}
use Rattle.compact_values.specs.Taking.{take_compact, take_byte, take_both}
use Rattle.compact_values.specs.declared.guid.Guid.{Guid}
use Rattle.compact_values.proofs.LittleEndian.{IsBytes}
use Rattle.compact_values.proofs.Takes.{Takes, takes_compact, takes_byte, takes_both}
use Rattle.stream_objects.specs.declared.tree.Tree.{Tree}
use Rattle.stream_objects.specs.declared.tree.Tree.TheViews.{out-Tree}
use Rattle.stream_objects.specs.Objects.{One, start_of, children_of}
use Rattle.stream_objects.specs.ObjectFields.{single}
use Rattle.stream_objects.specs.Gathering.{and_then}
use Rattle.stream_objects.proofs.Broken.{Judges}
use Rattle.doc_model.specs.wire.Knowledges.{IsKnowledge}
use Rattle.doc_model.specs.wire.SeenResponses.{IsCellError, IsAccess, QueryFields, AllocateFields, SubResponseFields, reply_form, blank, Says, IsSeen}
use Rattle.doc_model.specs.readers.ResponseSites.{Site, sub_response, query, allocate, HasPlaces, InOwnForm, site_start, failure_sites, access_sites, known_sites, comes_first, reply_sites, sub_row, sites_by, sites_behind, sub_sites}
use Rattle.doc_model.specs.declared.knowledge.Knowledge.{Knowledge}
use Rattle.doc_model.specs.declared.response.ReplyForm.{ReplyForm}
use Rattle.doc_model.specs.declared.response.ReplyForm.TheVariants.{Failed, Access, Pulled, Stored, Drawn}
use Rattle.doc_model.specs.declared.response.Seen.{Seen}
use Rattle.data_elements.proofs.RowLaws.{compound_row_found, compound_row_again}
use Rattle.wire_responses.specs.ResponseReading.{in_child, both_with, failure_at, access_at, query_at, allocate_at, known_at, failed_seen, pulled_seen, stored_seen, drawn_seen, failed_at, answered_access_at, pulled_at, stored_at, drawn_at, reply_at, sub_with, sub_at}
use Rattle.wire_responses.proofs.Judging.{judges_map, judges_then, judges_in_child, judges_both, again_in_child, again_both}
use Rattle.wire_responses.proofs.ReplyLaws.{judges_failure, again_failure, judges_access, again_access, judges_query, again_query, judges_allocate, again_allocate, judges_known, again_known}

abbrev Row : ℕ × (ℕ × ℕ) → List ℕ → Type 0
Row = SpellsCompact ▹ SpellsCompact ▹ SpellsByte

abbrev take_row : List ℕ → Option ((ℕ × (ℕ × ℕ)) × List ℕ)
take_row = take_both take_compact (take_both take_compact take_byte)

takes_row : Takes Row take_row
takes_row =
    takes_both SpellsCompact (SpellsCompact ▹ SpellsByte) take_compact (take_both take_compact take_byte) takes_compact (takes_both SpellsCompact SpellsByte take_compact take_byte takes_compact takes_byte)

module _ (input : List ℕ) (fits : IsBytes input) where
  abbrev Own : Site → Type 0
  Own = InOwnForm input

  sub_found : (t : Tree) (f : ℕ × (ℕ × ℕ)) → sub_row input t ≡ Some f → SubResponseFields input t f.0 f.1.0 f.1.1
  sub_found t f e = compound_row_found input fits Row take_row takes_row t f e

  sub_again : (t : Tree) (id kind status : ℕ) → SubResponseFields input t id kind status → sub_row input t ≡ Some (id, (kind, status))
  sub_again t id kind status h = compound_row_again input fits Row take_row takes_row t (id, (kind, status)) h

  -- the form that its fields give
  form_in : (t : Tree) (id kind status : ℕ) → SubResponseFields input t id kind status → (own : Own (sub_response t)) → reply_form kind status ≡ Some own.4
  form_in t id kind status h own =
      let a = sub_again t id kind status h in
      let b = sub_again t own.0 own.1 own.2 own.3 in
      let same : (id, (kind, status)) ≡ (own.0, (own.1, own.2)) = cc in
      ap (λ (f : ℕ × (ℕ × ℕ)). reply_form f.1.0 f.1.1) same ∙ own.5

  -- a sub-response with its fields, and of a form
  module _ (t : Tree) (id kind status : ℕ) (h : SubResponseFields input t id kind status) (form : ReplyForm) (e : reply_form kind status ≡ Some form) where
    places : Own (sub_response t) → HasPlaces form t
    places own =
        let f = form_in t id kind status h own in
        let same : own.4 ≡ form = cc in
        subst (λ (r : ReplyForm). HasPlaces r t) same own.6

    own_of : HasPlaces form t → Own (sub_response t)
    own_of there = (id, kind, status, h, form, e, there)

  abbrev JudgesReply : Tree → ℕ → ℕ → ReplyForm → Result Seen ℕ → Type 0
  JudgesReply t id kind form = Judges Own site_start (Says input t id kind form) (sub_response t ∷ reply_sites input t form)

  judges_failed : (t : Tree) (id kind status : ℕ) → SubResponseFields input t id kind status → reply_form kind status ≡ Some Failed → JudgesReply t id kind Failed (failed_at input t id kind)
  unfolding failed_at
  judges_failed t id kind status h e =
      let Held : Tree → Seen → Type 0 = λ c s. (n : ℕ) × IsCellError input c n × (s ≡ failed_seen id kind n) in
      judges_map Own site_start (One 0x4D Held t) (Says input t id kind Failed) (sub_response t ∷ flat_map failure_sites (children_of 0x4D t)) (λ s one. (one.2.0, (one.0, one.1, one.2.1), one.2.2))
      (in_child (start_of t) (λ c. and_then (failure_at input c) (λ n. Ok (failed_seen id kind n))) (single (children_of 0x4D t)))
      (judges_in_child Own site_start t (sub_response t) 0x4D failure_sites Held (λ c. and_then (failure_at input c) (λ n. Ok (failed_seen id kind n))) refl
      (own_of t id kind status h Failed e) (places t id kind status h Failed e)
      (λ c. judges_then Own site_start (IsCellError input c) (Held c) (failure_sites c) (failed_seen id kind) (λ n is. (n, is, refl)) (failure_at input c) (judges_failure input fits c)))

  judges_answered_access : (t : Tree) (id kind status : ℕ) → SubResponseFields input t id kind status → reply_form kind status ≡ Some Access → JudgesReply t id kind Access (answered_access_at input t id kind)
  unfolding answered_access_at
  judges_answered_access t id kind status h e =
      let first = comes_first 0x43 0x46 (out-Tree t).children in
      judges_map Own site_start (λ (s : Seen). (u : Unit {0}) × (v : Unit {0}) × One 0x43 (IsAccess input) t u × One 0x46 (IsAccess input) t v × (s ≡ blank id kind)) (Says input t id kind Access) (sub_response t ∷ reply_sites input t Access)
      (λ s x. (x.2, x.3, x.4)) (both_with (access_at input) (access_at input) (λ u v. blank id kind) (start_of t) first (single (children_of 0x43 t)) (single (children_of 0x46 t)))
      (judges_both Own site_start t (sub_response t) 0x43 0x46 first access_sites access_sites (IsAccess input) (IsAccess input) (access_at input) (access_at input) (λ u v. blank id kind) refl
      (λ c d. own_of t id kind status h Access e (c, d)) (places t id kind status h Access e) (judges_access input fits) (judges_access input fits))

  judges_pulled : (t : Tree) (id kind status : ℕ) → SubResponseFields input t id kind status → reply_form kind status ≡ Some Pulled → JudgesReply t id kind Pulled (pulled_at input t id kind)
  unfolding pulled_at
  judges_pulled t id kind status h e =
      judges_both Own site_start t (sub_response t) 0x5F 0x10 (comes_first 0x5F 0x10 (out-Tree t).children) (λ c. query c ∷ []) (known_sites input) (QueryFields input) (IsKnowledge input) (query_at input) (known_at input)
      (pulled_seen id kind) refl (λ c d. own_of t id kind status h Pulled e (c, d)) (places t id kind status h Pulled e) (judges_query input fits) (judges_known input fits)

  judges_stored : (t : Tree) (id kind status : ℕ) → SubResponseFields input t id kind status → reply_form kind status ≡ Some Stored → JudgesReply t id kind Stored (stored_at input t id kind)
  unfolding stored_at
  judges_stored t id kind status h e =
      let Held : Tree → Seen → Type 0 = λ c s. (k : Knowledge) × IsKnowledge input c k × (s ≡ stored_seen id kind k) in
      judges_map Own site_start (One 0x10 Held t) (Says input t id kind Stored) (sub_response t ∷ flat_map (known_sites input) (children_of 0x10 t)) (λ s one. (one.2.0, (one.0, one.1, one.2.1), one.2.2))
      (in_child (start_of t) (λ c. and_then (known_at input c) (λ k. Ok (stored_seen id kind k))) (single (children_of 0x10 t)))
      (judges_in_child Own site_start t (sub_response t) 0x10 (known_sites input) Held (λ c. and_then (known_at input c) (λ k. Ok (stored_seen id kind k))) refl
      (own_of t id kind status h Stored e) (places t id kind status h Stored e)
      (λ c. judges_then Own site_start (IsKnowledge input c) (Held c) (known_sites input c) (stored_seen id kind) (λ k is. (k, is, refl)) (known_at input c) (judges_known input fits c)))

  judges_drawn : (t : Tree) (id kind status : ℕ) → SubResponseFields input t id kind status → reply_form kind status ≡ Some Drawn → JudgesReply t id kind Drawn (drawn_at input t id kind)
  unfolding drawn_at
  judges_drawn t id kind status h e =
      let Held : Tree → Seen → Type 0 = λ c s. (x : Guid × (ℕ × ℕ)) × AllocateFields input c x × (s ≡ drawn_seen id kind x) in
      judges_map Own site_start (One 0x81 Held t) (Says input t id kind Drawn) (sub_response t ∷ flat_map (λ c. allocate c ∷ []) (children_of 0x81 t)) (λ s one. (one.2.0, (one.0, one.1, one.2.1), one.2.2))
      (in_child (start_of t) (λ c. and_then (allocate_at input c) (λ x. Ok (drawn_seen id kind x))) (single (children_of 0x81 t)))
      (judges_in_child Own site_start t (sub_response t) 0x81 (λ c. allocate c ∷ []) Held (λ c. and_then (allocate_at input c) (λ x. Ok (drawn_seen id kind x))) refl
      (own_of t id kind status h Drawn e) (places t id kind status h Drawn e)
      (λ c. judges_then Own site_start (AllocateFields input c) (Held c) (allocate c ∷ []) (drawn_seen id kind) (λ x is. (x, is, refl)) (allocate_at input c) (judges_allocate input fits c)))

  judges_reply : (t : Tree) (id kind status : ℕ) → SubResponseFields input t id kind status → (form : ReplyForm) → reply_form kind status ≡ Some form → JudgesReply t id kind form (reply_at input t id kind (Some form))
  judges_reply t id kind status h Failed e = judges_failed t id kind status h e
  judges_reply t id kind status h Access e = judges_answered_access t id kind status h e
  judges_reply t id kind status h Pulled e = judges_pulled t id kind status h e
  judges_reply t id kind status h Stored e = judges_stored t id kind status h e
  judges_reply t id kind status h Drawn e = judges_drawn t id kind status h e

  pub judges_sub : (t : Tree) → Judges Own site_start (IsSeen input t) (sub_sites input t) (sub_at input t)
  unfolding sub_at
  judges_sub t = go (sub_row input t) refl where
    by_form : (id kind status : ℕ) → SubResponseFields input t id kind status → (o : Option ReplyForm) → reply_form kind status ≡ o
        → Judges Own site_start (IsSeen input t) (sub_response t ∷ sites_by input t o) (reply_at input t id kind o)
    by_form id kind status h (Some form) e =
        judges_map Own site_start (Says input t id kind form) (IsSeen input t) (sub_response t ∷ reply_sites input t form)
        (λ s says. record { id = id; kind = kind; status = status; fields = h; form = form; form_is = e; says = says }) (reply_at input t id kind (Some form)) (judges_reply t id kind status h form e)
    by_form id kind status h None e = inl (λ own. let f = form_in t id kind status h own in absurd cc, refl)

    go : (o : Option (ℕ × (ℕ × ℕ))) → sub_row input t ≡ o → Judges Own site_start (IsSeen input t) (sub_response t ∷ sites_behind input t o) (sub_with input t o)
    go (Some f) e = by_form f.0 f.1.0 f.1.1 (sub_found t f e) (reply_form f.1.0 f.1.1) refl
    go None e = inl (λ own. let some = sub_again t own.0 own.1 own.2 own.3 in absurd cc, refl)

  -- ---- what is in form is read

  again_reply : (t : Tree) (id kind : ℕ) (form : ReplyForm) (s : Seen) → Says input t id kind form s → reply_at input t id kind (Some form) ≡ Ok s
  unfolding failed_at answered_access_at pulled_at stored_at drawn_at
  again_reply t id kind Failed s h =
      again_in_child t 0x4D (start_of t) (λ c (v : Seen). IsCellError input c h.0) (λ c. and_then (failure_at input c) (λ n. Ok (failed_seen id kind n))) (failed_seen id kind h.0)
      (λ c is. ap (λ (r : Result ℕ ℕ). and_then r (λ n. Ok (failed_seen id kind n))) (again_failure input fits c h.0 is)) h.1
      ∙ ap Ok (sym h.2)
  again_reply t id kind Access s h =
      again_both t 0x43 0x46 (start_of t) (comes_first 0x43 0x46 (out-Tree t).children) (IsAccess input) (IsAccess input) (access_at input) (access_at input) (λ u v. blank id kind) tt tt
      (λ c is. again_access input fits c tt is) (λ c is. again_access input fits c tt is) h.0 h.1
      ∙ ap Ok (sym h.2)
  again_reply t id kind Pulled s h =
      again_both t 0x5F 0x10 (start_of t) (comes_first 0x5F 0x10 (out-Tree t).children) (QueryFields input) (IsKnowledge input) (query_at input) (known_at input) (pulled_seen id kind) h.0 h.1
      (λ c is. again_query input fits c h.0 is) (λ c is. again_known input fits c h.1 is) h.2 h.3
      ∙ ap Ok (sym h.4)
  again_reply t id kind Stored s h =
      again_in_child t 0x10 (start_of t) (λ c (v : Seen). IsKnowledge input c h.0) (λ c. and_then (known_at input c) (λ k. Ok (stored_seen id kind k))) (stored_seen id kind h.0)
      (λ c is. ap (λ (r : Result Knowledge ℕ). and_then r (λ k. Ok (stored_seen id kind k))) (again_known input fits c h.0 is)) h.1
      ∙ ap Ok (sym h.2)
  again_reply t id kind Drawn s h =
      again_in_child t 0x81 (start_of t) (λ c (v : Seen). AllocateFields input c h.0) (λ c. and_then (allocate_at input c) (λ x. Ok (drawn_seen id kind x))) (drawn_seen id kind h.0)
      (λ c is. ap (λ (r : Result (Guid × (ℕ × ℕ)) ℕ). and_then r (λ x. Ok (drawn_seen id kind x))) (again_allocate input fits c h.0 is)) h.1
      ∙ ap Ok (sym h.2)

  pub again_sub : (t : Tree) (s : Seen) → IsSeen input t s → sub_at input t ≡ Ok s
  unfolding sub_at
  again_sub t s h =
      ap (sub_with input t) (sub_again t h.id h.kind h.status h.fields) ∙ ap (reply_at input t h.id h.kind) h.form_is ∙ again_reply t h.id h.kind h.form s h.says
