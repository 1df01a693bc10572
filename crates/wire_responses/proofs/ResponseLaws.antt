-- What is read of a response is what it says, or where the first of its objects that isn't in its form starts.
use Rattle.std.proofs.Common.{◌≡◌, ℕ, true, false, List, [], ◌∷◌, ◌++◌, map, Option, Some, None, Result, Ok, Err, inl, inr, refl, sym, ap, subst, ◌∙◌, append_assoc, eq-eqb}
use Rattle.std.specs.Prelude.{◌&&◌, is_some, filter, if◌then◌else◌}
use Rattle.std.specs.List.{AllByRecursion, flat_map}
use Rattle.std.proofs.lemmas.Bool.Decides.{eqb_tells}
use Rattle.std.proofs.lemmas.List.{append-nil}
use Rattle.compact_values.specs.Sequences.{SpellsByte}
use Rattle.compact_values.specs.Taking.{take_byte}
use Rattle.compact_values.proofs.LittleEndian.{IsBytes}
use Rattle.compact_values.proofs.Takes.{takes_byte}
use Rattle.stream_objects.specs.declared.tree.Tree.{Tree}
use Rattle.stream_objects.specs.declared.tree.Tree.TheViews.{out-Tree}
use Rattle.stream_objects.specs.Objects.{HasFields, One, Each, kind_of, is_kind, start_of, children_of}
use Rattle.stream_objects.specs.ObjectFields.{single}
use Rattle.stream_objects.specs.Gathering.{Gathers, and_then}
use Rattle.stream_objects.specs.Parts.{IsFirstBroken}
use Rattle.stream_objects.proofs.Broken.{Judges, all-append, broken_left, broken_right}
use Rattle.stream_objects.proofs.Children.{single_some, single_none}
use Rattle.doc_model.specs.readers.ElementSites as elements
use Rattle.doc_model.specs.wire.NumberedElements.{IsNumberedPackage}
use Rattle.doc_model.specs.readers.NumberedSites as numbered
use Rattle.doc_model.specs.wire.SeenResponses.{IsSeen, IsCellResponse}
use Rattle.doc_model.specs.readers.ResponseSites.{Site, packed, InOwnForm, site_start, sub_sites, child_sites, response_sites}
use Rattle.doc_model.specs.declared.element.NumberedElement.{NumberedElement}
use Rattle.doc_model.specs.declared.response.CellResponse.{CellResponse}
use Rattle.doc_model.specs.declared.response.Seen.{Seen}
use Rattle.data_elements.specs.NumberedReading.{numbered_package_at}
use Rattle.data_elements.specs.Rows.{package_row}
use Rattle.data_elements.proofs.NumberedLaws.{judges_numbered_package, again_numbered_package}
use Rattle.data_elements.proofs.RowLaws.{compound_row_found, compound_row_again}
use Rattle.wire_responses.specs.ResponseReading.{sub_at, and_answer, and_elements, child_at, children_at, is_zero, nothing_read, response_at}
use Rattle.wire_responses.proofs.SubLaws.{judges_sub, again_sub}

module _ (input : List ℕ) (fits : IsBytes input) where
  abbrev pub Own : Site → Type 0
  Own = InOwnForm input

  filter_yes : (k : ℕ) (t : Tree) (ts : List Tree) → is_kind k t ≡ true → filter (is_kind k) (t ∷ ts) ≡ t ∷ filter (is_kind k) ts
  filter_yes k t ts e = rw e refl

  filter_no : (k : ℕ) (t : Tree) (ts : List Tree) → is_kind k t ≡ false → filter (is_kind k) (t ∷ ts) ≡ filter (is_kind k) ts
  filter_no k t ts e = rw e refl

  -- ---- a package

  all_packed : (ps : List elements.Site) → AllByRecursion (numbered.InOwnForm input) ps → AllByRecursion Own (map packed ps)
  all_packed [] h = tt
  all_packed (p ∷ ps) h = (h.0, all_packed ps h.1)

  broken_packed : (ps : List elements.Site) (place : ℕ) → IsFirstBroken (numbered.InOwnForm input) elements.site_start ps place → IsFirstBroken Own site_start (map packed ps) place
  broken_packed [] place h = h
  broken_packed (p ∷ ps) place (inl h) = inl h
  broken_packed (p ∷ ps) place (inr h) = inr (h.0, broken_packed ps place h.1)

  -- ---- children

  -- what was read of these children behind what was read before
  record Behind (ts : List Tree) (r all : CellResponse) : Type 0 where
    new_answers : List Seen
    new_elements : List NumberedElement
    answers_are : all.answers ≡ r.answers ++ new_answers
    elements_are : all.elements ≡ r.elements ++ new_elements
    answers : Each (IsSeen input) (filter (is_kind 0x41) ts) new_answers
    elements : Gathers (IsNumberedPackage input) (filter (is_kind 0x15) ts) new_elements

  abbrev JudgesChildren : List Tree → CellResponse → Result CellResponse ℕ → Type 0
  JudgesChildren ts r = Judges Own site_start (Behind ts r) (flat_map (child_sites input) ts)

  not_both : (t : Tree) → kind_of t ≡ 0x41 → is_kind 0x15 t ≡ false
  not_both t e = rw e refl

  answered : (t : Tree) (r : CellResponse) → is_kind 0x41 t ≡ true → is_kind 0x15 t ≡ false → (x : Result Seen ℕ) → Judges Own site_start (IsSeen input t) (sub_sites input t) x
      → Judges Own site_start (Behind (t ∷ []) r) (sub_sites input t) (and_answer r x)
  answered t r y n (Ok s) j = (
    record {
      new_answers = s ∷ [];
      new_elements = [];
      answers_are = refl;
      elements_are = sym (append-nil r.elements);
      answers = subst (λ (l : List Tree). Each (IsSeen input) l (s ∷ [])) (sym (filter_yes 0x41 t [] y)) (j.0, tt);
      elements = subst (λ (l : List Tree). Gathers (IsNumberedPackage input) l []) (sym (filter_no 0x15 t [] n)) refl;
    },
    j.1,
  )
  answered t r y n (Err place) j = j

  packaged : (t : Tree) (r : CellResponse) → is_kind 0x41 t ≡ false → is_kind 0x15 t ≡ true → (x : Result (List NumberedElement) ℕ)
      → Judges (numbered.InOwnForm input) elements.site_start (IsNumberedPackage input t) (elements.package_sites input t) x
      → Judges Own site_start (Behind (t ∷ []) r) (map packed (elements.package_sites input t)) (and_elements r x)
  packaged t r n y (Ok new) j = (
    record {
      new_answers = [];
      new_elements = new;
      answers_are = sym (append-nil r.answers);
      elements_are = refl;
      answers = subst (λ (l : List Tree). Each (IsSeen input) l []) (sym (filter_no 0x41 t [] n)) tt;
      elements = subst (λ (l : List Tree). Gathers (IsNumberedPackage input) l new) (sym (filter_yes 0x15 t [] y)) (new, [], j.0, refl, sym (append-nil new));
    },
    all_packed (elements.package_sites input t) j.1,
  )
  packaged t r n y (Err place) j = broken_packed (elements.package_sites input t) place j

  judges_child : (t : Tree) (r : CellResponse) → Judges Own site_start (Behind (t ∷ []) r) (child_sites input t) (child_at input r t)
  unfolding child_at
  judges_child t r =
      elim (eqb_tells (kind_of t) 0x41) [
        | inl y ↦ rw y.0 (answered t r y.0 (not_both t y.1) (sub_at input t) (judges_sub input fits t))
        | inr n ↦
            elim (eqb_tells (kind_of t) 0x15) [
              | inl y ↦ rw (n.0, y.0) (packaged t r n.0 y.0 (numbered_package_at input t) (judges_numbered_package input fits t))
              | inr m ↦
                  rw (n.0, m.0) (
                    record {
                      new_answers = [];
                      new_elements = [];
                      answers_are = sym (append-nil r.answers);
                      elements_are = sym (append-nil r.elements);
                      answers = subst (λ (l : List Tree). Each (IsSeen input) l []) (sym (filter_no 0x41 t [] n.0)) tt;
                      elements = subst (λ (l : List Tree). Gathers (IsNumberedPackage input) l []) (sym (filter_no 0x15 t [] m.0)) refl;
                    },
                    tt,
                  )
            ]
      ]

  filter_cons : (k : ℕ) (t : Tree) (ts : List Tree) → filter (is_kind k) (t ∷ ts) ≡ filter (is_kind k) (t ∷ []) ++ filter (is_kind k) ts
  filter_cons k t ts =
      elim (eqb_tells (kind_of t) k) [
        | inl y ↦ rw y.0 refl
        | inr n ↦ rw n.0 refl
      ]

  each_join : (xs ys : List Tree) (us vs : List Seen) → Each (IsSeen input) xs us → Each (IsSeen input) ys vs → Each (IsSeen input) (xs ++ ys) (us ++ vs)
  each_join [] ys [] vs g h = h
  each_join [] ys (u ∷ us) vs g h = absurd g
  each_join (x ∷ xs) ys [] vs g h = absurd g
  each_join (x ∷ xs) ys (u ∷ us) vs g h = (g.0, each_join xs ys us vs g.1 h)

  gathers_join : (xs ys : List Tree) (us vs : List NumberedElement) → Gathers (IsNumberedPackage input) xs us → Gathers (IsNumberedPackage input) ys vs → Gathers (IsNumberedPackage input) (xs ++ ys) (us ++ vs)
  gathers_join [] ys us vs g h = subst (λ (l : List NumberedElement). Gathers (IsNumberedPackage input) ys (l ++ vs)) (sym g) h
  gathers_join (x ∷ xs) ys us vs g h = (g.0, g.1 ++ vs, g.2, gathers_join xs ys g.1 vs g.3 h, ap (λ (l : List NumberedElement). l ++ vs) g.4 ∙ append_assoc g.0 g.1 vs)

  then_children : (t : Tree) (ts : List Tree) (r more : CellResponse) → Behind (t ∷ []) r more → AllByRecursion Own (child_sites input t) → (x : Result CellResponse ℕ) → JudgesChildren ts more x → JudgesChildren (t ∷ ts) r x
  then_children t ts r more b own (Ok all) j = (
    record {
      new_answers = b.new_answers ++ j.0.new_answers;
      new_elements = b.new_elements ++ j.0.new_elements;
      answers_are = j.0.answers_are ∙ ap (λ (l : List Seen). l ++ j.0.new_answers) b.answers_are ∙ append_assoc r.answers b.new_answers j.0.new_answers;
      elements_are = j.0.elements_are ∙ ap (λ (l : List NumberedElement). l ++ j.0.new_elements) b.elements_are ∙ append_assoc r.elements b.new_elements j.0.new_elements;
      answers = subst (λ (l : List Tree). Each (IsSeen input) l (b.new_answers ++ j.0.new_answers)) (sym (filter_cons 0x41 t ts)) (each_join (filter (is_kind 0x41) (t ∷ [])) (filter (is_kind 0x41) ts) b.new_answers j.0.new_answers b.answers j.0.answers);
      elements = subst (λ (l : List Tree). Gathers (IsNumberedPackage input) l (b.new_elements ++ j.0.new_elements)) (sym (filter_cons 0x15 t ts)) (gathers_join (filter (is_kind 0x15) (t ∷ [])) (filter (is_kind 0x15) ts) b.new_elements j.0.new_elements b.elements j.0.elements);
    },
    all-append Own site_start (child_sites input t) (flat_map (child_sites input) ts) own j.1,
  )
  then_children t ts r more b own (Err place) j = broken_right Own site_start (child_sites input t) (flat_map (child_sites input) ts) place own j

  first_child : (t : Tree) (ts : List Tree) (r : CellResponse) → ((more : CellResponse) → JudgesChildren ts more (children_at input ts more)) → (x : Result CellResponse ℕ)
      → Judges Own site_start (Behind (t ∷ []) r) (child_sites input t) x → JudgesChildren (t ∷ ts) r (and_then x (children_at input ts))
  first_child t ts r rest (Ok more) j = then_children t ts r more j.0 j.1 (children_at input ts more) (rest more)
  first_child t ts r rest (Err place) j = broken_left Own site_start (child_sites input t) (flat_map (child_sites input) ts) place j

  judges_children : (ts : List Tree) (r : CellResponse) → JudgesChildren ts r (children_at input ts r)
  judges_children [] r = (record { new_answers = []; new_elements = []; answers_are = sym (append-nil r.answers); elements_are = sym (append-nil r.elements); answers = tt; elements = refl }, tt)
  judges_children (t ∷ ts) r = first_child t ts r (judges_children ts) (child_at input r t) (judges_child t r)

  -- ---- the response

  byte_found : (t : Tree) (b : ℕ) → package_row input t ≡ Some b → HasFields true SpellsByte input t b
  byte_found t b e = compound_row_found input fits SpellsByte take_byte takes_byte t b e

  byte_again : (t : Tree) (b : ℕ) → HasFields true SpellsByte input t b → package_row input t ≡ Some b
  byte_again t b h = compound_row_again input fits SpellsByte take_byte takes_byte t b h

  one_package : (t c : Tree) (ns : List NumberedElement) → children_of 0x15 t ≡ c ∷ [] → Gathers (IsNumberedPackage input) (children_of 0x15 t) ns → One 0x15 (IsNumberedPackage input) t ns
  one_package t c ns one g =
      let h = subst (λ (l : List Tree). Gathers (IsNumberedPackage input) l ns) one g in
      let all : ns ≡ h.0 = h.4 ∙ ap (λ (l : List NumberedElement). h.0 ++ l) h.3 ∙ append-nil h.0 in
      (c, one, subst (IsNumberedPackage input c) (sym all) h.2)

  judges_in : (t c : Tree) → kind_of t ≡ 0x62 → HasFields true SpellsByte input t 0 → children_of 0x15 t ≡ c ∷ [] → (x : Result CellResponse ℕ) → JudgesChildren (out-Tree t).children nothing_read x
      → Judges Own site_start (IsCellResponse input t) (response_sites input t) x
  judges_in t c k h one (Ok r) j = (
    record {
      kind = k;
      fields = h;
      elements = subst (λ (l : List NumberedElement). One 0x15 (IsNumberedPackage input) t l) (sym j.0.elements_are) (one_package t c j.0.new_elements one j.0.elements);
      answers = subst (λ (l : List Seen). Each (IsSeen input) (children_of 0x41 t) l) (sym j.0.answers_are) j.0.answers;
    },
    ((k, h, (c, one)), j.1),
  )
  judges_in t c k h one (Err place) j = inr ((k, h, (c, one)), j)

  pub judges_response : (t : Tree) → Judges Own site_start (IsCellResponse input t) (response_sites input t) (response_at input t)
  unfolding response_at
  judges_response t =
      elim (eqb_tells (kind_of t) 0x62) [
        | inl y ↦ rw y.0 (by_byte y.1 (package_row input t) (single (children_of 0x15 t)) refl refl)
        | inr n ↦ rw n.0 (inl (λ own. n.1 own.0, refl))
      ] where
        by_byte : kind_of t ≡ 0x62 → (o : Option ℕ) (s : Option Tree) → package_row input t ≡ o → single (children_of 0x15 t) ≡ s
            → Judges Own site_start (IsCellResponse input t) (response_sites input t) (if is_zero o && is_some s then children_at input (out-Tree t).children nothing_read else Err (start_of t))
        by_byte k None s e g = inl (λ own. let some = byte_again t 0 own.1 in absurd cc, refl)
        by_byte k (Some b) None e g =
            elim (eqb_tells b 0) [
              | inl y ↦ rw y.0 (inl (λ own. single_none (children_of 0x15 t) g own.2.0 own.2.1, refl))
              | inr n ↦ rw n.0 (inl (λ own. single_none (children_of 0x15 t) g own.2.0 own.2.1, refl))
            ]
        by_byte k (Some b) (Some c) e g =
            elim (eqb_tells b 0) [
              | inl y ↦
                  rw y.0
                  (judges_in t c k (subst (HasFields true SpellsByte input t) y.1 (byte_found t b e)) (single_some (children_of 0x15 t) c g) (children_at input (out-Tree t).children nothing_read)
                  (judges_children (out-Tree t).children nothing_read))
              | inr n ↦ rw n.0 (inl (λ own. let some = byte_again t 0 own.1 in let same : b ≡ 0 = cc in n.1 same, refl))
            ]

  -- ---- what is in form is read

  made : List Seen → List NumberedElement → CellResponse
  made ss ns = record { answers = ss; elements = ns }

  same_made : (ss us : List Seen) (ns vs : List NumberedElement) → ss ≡ us → ns ≡ vs → made ss ns ≡ made us vs
  same_made ss us ns vs a b = ap (λ (l : List Seen). made l ns) a ∙ ap (λ (l : List NumberedElement). made us l) b

  abbrev AgainChildren : List Tree → Type 0
  AgainChildren ts = (r : CellResponse) (ss : List Seen) (ns : List NumberedElement) → Each (IsSeen input) (filter (is_kind 0x41) ts) ss → Gathers (IsNumberedPackage input) (filter (is_kind 0x15) ts) ns
      → children_at input ts r ≡ Ok (made (r.answers ++ ss) (r.elements ++ ns))

  again_answer : (t : Tree) (ts : List Tree) → is_kind 0x41 t ≡ true → AgainChildren ts → (r : CellResponse) (ss : List Seen) (ns : List NumberedElement) → Each (IsSeen input) (t ∷ filter (is_kind 0x41) ts) ss
      → Gathers (IsNumberedPackage input) (filter (is_kind 0x15) ts) ns → children_at input (t ∷ ts) r ≡ Ok (made (r.answers ++ ss) (r.elements ++ ns))
  unfolding child_at made
  again_answer t ts y rest r [] ns g h = absurd g
  again_answer t ts y rest r (s ∷ ss) ns g h =
      let read : child_at input r t ≡ Ok (record r { answers = r.answers ++ s ∷ [] }) = rw y (ap (and_answer r) (again_sub input fits t s g.0)) in
      ap (λ (x : Result CellResponse ℕ). and_then x (children_at input ts)) read ∙ rest (record r { answers = r.answers ++ s ∷ [] }) ss ns g.1 h
      ∙ ap Ok (same_made ((r.answers ++ s ∷ []) ++ ss) (r.answers ++ s ∷ ss) (r.elements ++ ns) (r.elements ++ ns) (append_assoc r.answers (s ∷ []) ss) refl)

  again_package : (t : Tree) (ts : List Tree) → is_kind 0x41 t ≡ false → is_kind 0x15 t ≡ true → AgainChildren ts → (r : CellResponse) (ss : List Seen) (ns : List NumberedElement)
      → Each (IsSeen input) (filter (is_kind 0x41) ts) ss → Gathers (IsNumberedPackage input) (t ∷ filter (is_kind 0x15) ts) ns → children_at input (t ∷ ts) r ≡ Ok (made (r.answers ++ ss) (r.elements ++ ns))
  unfolding child_at made
  again_package t ts n y rest r ss ns g h =
      let read : child_at input r t ≡ Ok (record r { elements = r.elements ++ h.0 }) = rw (n, y) (ap (and_elements r) (again_numbered_package input fits t h.0 h.2)) in
      ap (λ (x : Result CellResponse ℕ). and_then x (children_at input ts)) read ∙ rest (record r { elements = r.elements ++ h.0 }) ss h.1 g h.3
      ∙ ap Ok (same_made (r.answers ++ ss) (r.answers ++ ss) ((r.elements ++ h.0) ++ h.1) (r.elements ++ ns) refl (append_assoc r.elements h.0 h.1 ∙ ap (λ (l : List NumberedElement). r.elements ++ l) (sym h.4)))

  again_other : (t : Tree) (ts : List Tree) → is_kind 0x41 t ≡ false → is_kind 0x15 t ≡ false → AgainChildren ts → AgainChildren (t ∷ ts)
  unfolding child_at
  again_other t ts n m rest r ss ns g h =
      let read : child_at input r t ≡ Ok r = rw (n, m) refl in
      ap (λ (x : Result CellResponse ℕ). and_then x (children_at input ts)) read
      ∙ rest r ss ns (subst (λ (l : List Tree). Each (IsSeen input) l ss) (filter_no 0x41 t ts n) g) (subst (λ (l : List Tree). Gathers (IsNumberedPackage input) l ns) (filter_no 0x15 t ts m) h)

  again_children : (ts : List Tree) → AgainChildren ts
  unfolding made
  again_children [] r [] ns g h = ap Ok (same_made r.answers (r.answers ++ []) r.elements (r.elements ++ ns) (sym (append-nil r.answers)) (sym (append-nil r.elements) ∙ ap (λ (l : List NumberedElement). r.elements ++ l) (sym h)))
  again_children [] r (s ∷ ss) ns g h = absurd g
  again_children (t ∷ ts) r ss ns g h =
      elim (eqb_tells (kind_of t) 0x41) [
        | inl y ↦
            again_answer t ts y.0 (again_children ts) r ss ns (subst (λ (l : List Tree). Each (IsSeen input) l ss) (filter_yes 0x41 t ts y.0) g)
            (subst (λ (l : List Tree). Gathers (IsNumberedPackage input) l ns) (filter_no 0x15 t ts (not_both t y.1)) h)
        | inr n ↦
            elim (eqb_tells (kind_of t) 0x15) [
              | inl y ↦
                  again_package t ts n.0 y.0 (again_children ts) r ss ns (subst (λ (l : List Tree). Each (IsSeen input) l ss) (filter_no 0x41 t ts n.0) g)
                  (subst (λ (l : List Tree). Gathers (IsNumberedPackage input) l ns) (filter_yes 0x15 t ts y.0) h)
              | inr m ↦ again_other t ts n.0 m.0 (again_children ts) r ss ns g h
            ]
      ]

  pub again_response : (t : Tree) (r : CellResponse) → IsCellResponse input t r → response_at input t ≡ Ok r
  unfolding response_at made
  again_response t r h =
      let p = h.elements in
      let packages : Gathers (IsNumberedPackage input) (children_of 0x15 t) r.elements =
      subst (λ (l : List Tree). Gathers (IsNumberedPackage input) l r.elements) (sym p.1) (r.elements, [], p.2, refl, sym (append-nil r.elements)) in
      rw (eq-eqb (kind_of t) 0x62 h.kind, byte_again t 0 h.fields, ap single p.1) (again_children (out-Tree t).children nothing_read r.answers r.elements h.answers packages)
