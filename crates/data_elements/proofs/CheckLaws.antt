-- Checking the children of an element, and collecting what those of a type say.
use Rattle.std.proofs.Common.{◌≡◌, ℕ, Bool, true, false, List, [], ◌∷◌, ◌++◌, map, Option, Some, None, Result, Ok, Err, inl, inr, refl, sym, ap, subst, ◌∙◌, append_assoc}
use Rattle.std.specs.Prelude.{option_and_then, ◌||◌, ◌==◌, filter, if◌then◌else◌}
use Rattle.std.specs.List.{AllByRecursion, flat_map}
use Rattle.std.proofs.lemmas.Bool.{cases_Bool, or_cases, eqb-true}
use Rattle.std.proofs.lemmas.Bool.Decides.{eqb_tells}
use Rattle.std.proofs.lemmas.List.{append-nil}
use Rattle.compact_values.specs.declared.ids.ExGuid.{ExGuid}
use Rattle.compact_values.specs.declared.ids.Serial.{Serial}
use Rattle.compact_values.proofs.LittleEndian.{IsBytes}
use Rattle.stream_objects.specs.declared.tree.Tree.{Tree}
use Rattle.stream_objects.specs.declared.tree.Tree.TheViews.{out-Tree}
use Rattle.stream_objects.specs.Objects.{One, Each, kind_of, is_kind, start_of, children_of}
use Rattle.stream_objects.specs.Parts.{IsFirstBroken}
use Rattle.stream_objects.specs.ObjectFields.{single}
use Rattle.stream_objects.specs.Gathering.{and_then}
use Rattle.stream_objects.proofs.Broken.{Judges, all-append, broken_left, broken_right}
use Rattle.doc_model.specs.wire.ElementObjects.{ElementFields}
use Rattle.doc_model.specs.wire.Elements.{SaysBody}
use Rattle.doc_model.specs.readers.ElementSites.{Site, element, child, member, has_place, members_in, child_sites, ChildInForm, MemberInForm, KindInForm, InOwnForm, site_start}
use Rattle.doc_model.specs.declared.element.Body.{Body}
use Rattle.data_elements.specs.Rows.{child_ok, member_ok}
use Rattle.data_elements.specs.Checking.{or_then, check_members, child_fault, check_at, unless_broken, or_broken, collect_from, only}
use Rattle.data_elements.proofs.RowLaws.{element_again, child_sound, child_complete}
use Rattle.data_elements.proofs.MemberLaws.{member_sound, member_complete}

-- ---- lists

pub all_left : {P : Type 0} (InForm : P → Type 0) (ps qs : List P) → AllByRecursion InForm (ps ++ qs) → AllByRecursion InForm ps
all_left InForm [] qs h = tt
all_left InForm (p ∷ ps) qs h = (h.0, all_left InForm ps qs h.1)

pub all_right : {P : Type 0} (InForm : P → Type 0) (ps qs : List P) → AllByRecursion InForm (ps ++ qs) → AllByRecursion InForm qs
all_right InForm [] qs h = h
all_right InForm (p ∷ ps) qs h = all_right InForm ps qs h.1

-- what holds of those that pass the test
pub filter_all : {P : Type 0} (test : P → Bool) (Holds : P → Type 0) (ps : List P) → AllByRecursion (λ p. test p ≡ true → Holds p) ps → AllByRecursion Holds (filter test ps)
filter_all {P} test Holds [] h = tt
filter_all {P} test Holds (p ∷ ps) h =
    elim (cases_Bool (test p)) [
      | inl y ↦ let first : filter test (p ∷ ps) ≡ p ∷ filter test ps = rw y refl in subst (λ (l : List P). AllByRecursion Holds l) (sym first) (h.0 y, filter_all test Holds ps h.1)
      | inr n ↦ let first : filter test (p ∷ ps) ≡ filter test ps = rw n refl in subst (λ (l : List P). AllByRecursion Holds l) (sym first) (filter_all test Holds ps h.1)
    ]

module _ (input : List ℕ) (fits : IsBytes input) where
  abbrev pub Own : Site → Type 0
  Own = InOwnForm input

  -- ---- the first fault

  -- the fault is the first part that isn't in its form, and without a fault all are in form
  abbrev pub Tells : List Site → Option ℕ → Type 0
  Tells ps (Some place) = IsFirstBroken Own site_start ps place
  Tells ps None = AllByRecursion Own ps

  then_tells : (p : Site) (ps : List Site) → Own p → (o : Option ℕ) → Tells ps o → Tells (p ∷ ps) o
  then_tells p ps own (Some place) h = inr (own, h)
  then_tells p ps own None h = (own, h)

  joined : (ps qs : List Site) (o n : Option ℕ) → Tells ps o → Tells qs n → Tells (ps ++ qs) (or_then o n)
  joined ps qs (Some place) n h k = broken_left Own site_start ps qs place h
  joined ps qs None (Some place) h k = broken_right Own site_start ps qs place h k
  joined ps qs None None h k = all-append Own site_start ps qs h k

  members_tell : (ts : List Tree) → Tells (map member ts) (check_members input ts)
  members_tell [] = tt
  members_tell (t ∷ ts) =
      elim (cases_Bool (member_ok input t)) [
        | inl y ↦ rw y (then_tells (member t) (map member ts) (member_sound input fits t y) (check_members input ts) (members_tell ts))
        | inr n ↦ rw n (inl (λ own. let good = member_complete input fits t own in absurd cc, refl))
      ]

  abbrev held : ℕ → Tree → List Site
  held kind c = if kind == 5 then map member (members_in c) else []

  child_tells : (kind : ℕ) (c : Tree) → Tells (child c ∷ held kind c) (child_fault input kind c)
  unfolding child_fault
  child_tells kind c =
      elim (cases_Bool (child_ok input c)) [
        | inl y ↦
            elim (cases_Bool (kind == 5)) [
              | inl five ↦ rw (y, five) (then_tells (child c) (map member (members_in c)) (child_sound input fits c y) (check_members input (members_in c)) (members_tell (members_in c)))
              | inr other ↦ rw (y, other) (child_sound input fits c y, tt)
            ]
        | inr n ↦ rw n (inl (λ own. let good = child_complete input fits c own in absurd cc, refl))
      ]

  pub checked : (kind : ℕ) (cs : List Tree) → Tells (flat_map (child_sites kind) cs) (check_at input kind cs)
  checked kind [] = tt
  checked kind (c ∷ cs) =
      elim (cases_Bool (has_place kind c)) [
        | inl y ↦ rw y (joined (child c ∷ held kind c) (flat_map (child_sites kind) cs) (child_fault input kind c) (check_at input kind cs) (child_tells kind c) (checked kind cs))
        | inr n ↦ rw n (checked kind cs)
      ]

  -- ---- children in form

  -- a child with a place is in form
  abbrev pub Placed : ℕ → Tree → Type 0
  Placed kind c = has_place kind c ≡ true → ChildInForm input c

  parts_are : (kind : ℕ) (c : Tree) → has_place kind c ≡ true → child_sites kind c ≡ child c ∷ held kind c
  parts_are kind c y = rw y refl

  pub placed : (kind : ℕ) (cs : List Tree) → AllByRecursion Own (flat_map (child_sites kind) cs) → AllByRecursion (Placed kind) cs
  placed kind [] h = tt
  placed kind (c ∷ cs) h = (
    λ y. let first : AllByRecursion Own (child c ∷ held kind c) = subst (λ (l : List Site). AllByRecursion Own l) (parts_are kind c y) (all_left Own (child_sites kind c) (flat_map (child_sites kind) cs) h) in first.0,
    placed kind cs (all_right Own (child_sites kind c) (flat_map (child_sites kind) cs) h),
  )

  members_all : (ts : List Tree) → AllByRecursion Own (map member ts) → AllByRecursion (MemberInForm input) ts
  members_all [] h = tt
  members_all (t ∷ ts) h = (h.0, members_all ts h.1)

  -- in a group, a child with a place is in form, and so is what it holds
  abbrev pub Holds : Tree → Type 0
  Holds c = has_place 5 c ≡ true → ChildInForm input c × AllByRecursion (MemberInForm input) (members_in c)

  pub holds : (cs : List Tree) → AllByRecursion Own (flat_map (child_sites 5) cs) → AllByRecursion Holds cs
  holds [] h = tt
  holds (c ∷ cs) h = (
    λ y. let first : AllByRecursion Own (child c ∷ map member (members_in c)) = subst (λ (l : List Site). AllByRecursion Own l) (parts_are 5 c y) (all_left Own (child_sites 5 c) (flat_map (child_sites 5) cs) h) in
        (first.0, members_all (members_in c) first.1),
    holds cs (all_right Own (child_sites 5 c) (flat_map (child_sites 5) cs) h),
  )

  -- the objects of a type
  pub record Collected {V : Type 0} (k : ℕ) (row : List ℕ → Tree → Option V) (Is : Tree → V → Type 0) (cs : List Tree) (acc : List V) : Type 0 where
    pub values : List V
    pub read : collect_from row input acc (filter (is_kind k) cs) ≡ Ok (acc ++ values)
    pub each : Each Is (filter (is_kind k) cs) values

  pub collected : {V : Type 0} (kind k : ℕ) (row : List ℕ → Tree → Option V) (Is : Tree → V → Type 0) → ((c : Tree) → kind_of c ≡ k → has_place kind c ≡ true)
      → ((c : Tree) → kind_of c ≡ k → ChildInForm input c → (v : V) × (row input c ≡ Some v) × Is c v) → (cs : List Tree) → AllByRecursion (Placed kind) cs → (acc : List V) → Collected k row Is cs acc
  collected {V} kind k row Is place good [] h acc = record { values = []; read = ap Ok (sym (append-nil acc)); each = tt }
  collected {V} kind k row Is place good (c ∷ cs) h acc =
      elim (eqb_tells (kind_of c) k) [
        | inl y ↦
            let v = good c y.1 (h.0 (place c y.1)) in
            let rest = collected kind k row Is place good cs h.1 (acc ++ v.0 ∷ []) in
            let first : filter (is_kind k) (c ∷ cs) ≡ c ∷ filter (is_kind k) cs = rw y.0 refl in
            let head : collect_from row input acc (c ∷ filter (is_kind k) cs) ≡ collect_from row input (acc ++ v.0 ∷ []) (filter (is_kind k) cs) =
            ap (λ (o : Option V). and_then (or_broken (start_of c) o) (λ x. collect_from row input (acc ++ x ∷ []) (filter (is_kind k) cs))) v.1 in
            record {
              values = v.0 ∷ rest.values;
              read = ap (collect_from row input acc) first ∙ head ∙ rest.read ∙ ap Ok (append_assoc acc (v.0 ∷ []) rest.values);
              each = subst (λ (l : List Tree). Each Is l (v.0 ∷ rest.values)) (sym first) (v.2, rest.each);
            }
        | inr n ↦
            let rest = collected kind k row Is place good cs h.1 acc in
            let first : filter (is_kind k) (c ∷ cs) ≡ filter (is_kind k) cs = rw n.0 refl in
            record {
              values = rest.values;
              read = ap (collect_from row input acc) first ∙ rest.read;
              each = subst (λ (l : List Tree). Each Is l rest.values) (sym first) rest.each;
            }
      ]

  pub again_collect : {V : Type 0} (row : List ℕ → Tree → Option V) (Is : Tree → V → Type 0) → ((c : Tree) (v : V) → Is c v → row input c ≡ Some v) → (cs : List Tree) (vs acc : List V) → Each Is cs vs
      → collect_from row input acc cs ≡ Ok (acc ++ vs)
  again_collect {V} row Is again [] [] acc h = ap Ok (sym (append-nil acc))
  again_collect {V} row Is again [] (v ∷ vs) acc h = absurd h
  again_collect {V} row Is again (c ∷ cs) [] acc h = absurd h
  again_collect {V} row Is again (c ∷ cs) (v ∷ vs) acc h =
      ap (λ (o : Option V). and_then (or_broken (start_of c) o) (λ x. collect_from row input (acc ++ x ∷ []) cs)) (again c v h.0) ∙ again_collect row Is again cs vs (acc ++ v ∷ []) h.1
      ∙ ap Ok (append_assoc acc (v ∷ []) vs)

  -- ---- the only object of a type

  pub again_only : {V : Type 0} (k : ℕ) (row : List ℕ → Tree → Option V) (Is : Tree → V → Type 0) → ((c : Tree) (v : V) → Is c v → row input c ≡ Some v) → (t : Tree) (v : V) → One k Is t v
      → only k row input t ≡ Ok v
  again_only {V} k row Is again t v h = ap (λ (o : Option Tree). or_broken (start_of t) (option_and_then (row input) o)) (ap single h.1) ∙ ap (or_broken (start_of t)) (again h.0 v h.2)

  pub only_of : {V : Type 0} (k : ℕ) (row : List ℕ → Tree → Option V) (Is : Tree → V → Type 0) (t c : Tree) → children_of k t ≡ c ∷ [] → ((c : Tree) (v : V) → Is c v → row input c ≡ Some v)
      → (vs : List V) → Each Is (c ∷ []) vs → (v : V) × One k Is t v × (only k row input t ≡ Ok v)
  only_of {V} k row Is t c one again [] h = absurd h
  only_of {V} k row Is t c one again (v ∷ []) h = (v, (c, one, h.0), again_only k row Is again t v (c, one, h.0))
  only_of {V} k row Is t c one again (v ∷ w ∷ vs) h = absurd h.1

  -- ---- the element for itself

  abbrev pub JudgesBody : Tree → ℕ → Result Body ℕ → Type 0
  JudgesBody t kind = Judges Own site_start (SaysBody input t kind) (element t ∷ flat_map (child_sites kind) (out-Tree t).children)

  one_kind : (t : Tree) (i j : ExGuid) (s r : Serial) (m n : ℕ) → ElementFields input t i s m → ElementFields input t j r n → m ≡ n
  one_kind t i j s r m n g h =
      let a = element_again input fits t (i, (s, m)) g in
      let b = element_again input fits t (j, (r, n)) h in
      let same : (i, (s, m)) ≡ (j, (r, n)) = cc in
      ap (λ (x : ExGuid × (Serial × ℕ)). x.1.1) same

  module _ (t : Tree) (id : ExGuid) (serial : Serial) (kind : ℕ) (has : ElementFields input t id serial kind) where
    -- it is in form: its children decide
    pub by_children : KindInForm input kind t → (next : Result Body ℕ)
        → (AllByRecursion Own (flat_map (child_sites kind) (out-Tree t).children) → (body : Body) × (next ≡ Ok body) × SaysBody input t kind body)
        → JudgesBody t kind (unless_broken (check_at input kind (out-Tree t).children) next)
    by_children form next read = go (check_at input kind (out-Tree t).children) (checked kind (out-Tree t).children) where
      go : (o : Option ℕ) → Tells (flat_map (child_sites kind) (out-Tree t).children) o → JudgesBody t kind (unless_broken o next)
      go (Some place) h = inr ((id, serial, kind, has, form), h)
      go None h = let b = read h in subst (JudgesBody t kind) (sym b.1) (b.2, ((id, serial, kind, has, form), h))

    -- it isn't
    pub not_itself : (KindInForm input kind t → ⊥) → JudgesBody t kind (Err (start_of t))
    not_itself bad = inl (λ own. let same = one_kind t own.0 id own.1 serial own.2 kind own.3 has in bad (subst (λ (k : ℕ). KindInForm input k t) same own.4), refl)

  -- ---- what is in form has no fault

  -- the objects that pass a test are in form
  abbrev pub AllOk : ℕ → (Tree → Bool) → List Tree → Type 0
  AllOk kind test cs = AllByRecursion (λ c. test c ≡ true → child_fault input kind c ≡ None) cs

  -- outside of a group a child holds nothing that has a place
  pub fine : (kind : ℕ) → (kind == 5) ≡ false → (c : Tree) → child_ok input c ≡ true → child_fault input kind c ≡ None
  unfolding child_fault
  fine kind other c y = rw (y, other) refl

  then_ok : {V : Type 0} (kind k : ℕ) (Is : Tree → V → Type 0) → ((c : Tree) (v : V) → kind_of c ≡ k → Is c v → child_fault input kind c ≡ None) → (c : Tree) (cs : List Tree)
      → ((vs : List V) → Each Is (filter (is_kind k) cs) vs → AllOk kind (is_kind k) cs) → (vs : List V) → Each Is (c ∷ filter (is_kind k) cs) vs → AllOk kind (is_kind k) (c ∷ cs)
  then_ok kind k Is ok c cs rest [] h = absurd h
  then_ok kind k Is ok c cs rest (v ∷ vs) h = (λ e. ok c v (eqb-true (kind_of c) k e) h.0, rest vs h.1)

  pub each_ok : {V : Type 0} (kind k : ℕ) (Is : Tree → V → Type 0) → ((c : Tree) (v : V) → kind_of c ≡ k → Is c v → child_fault input kind c ≡ None) → (cs : List Tree) (vs : List V)
      → Each Is (filter (is_kind k) cs) vs → AllOk kind (is_kind k) cs
  each_ok {V} kind k Is ok [] vs h = tt
  each_ok {V} kind k Is ok (c ∷ cs) vs h =
      elim (eqb_tells (kind_of c) k) [
        | inl y ↦
            let first : filter (is_kind k) (c ∷ cs) ≡ c ∷ filter (is_kind k) cs = rw y.0 refl in
            then_ok kind k Is ok c cs (each_ok kind k Is ok cs) vs (subst (λ (l : List Tree). Each Is l vs) first h)
        | inr n ↦
            let first : filter (is_kind k) (c ∷ cs) ≡ filter (is_kind k) cs = rw n.0 refl in
            (λ e. let bad = n.0 in absurd cc, each_ok kind k Is ok cs vs (subst (λ (l : List Tree). Each Is l vs) first h))
      ]

  pub one_ok : {V : Type 0} (kind k : ℕ) (Is : Tree → V → Type 0) → ((c : Tree) (v : V) → kind_of c ≡ k → Is c v → child_fault input kind c ≡ None) → (t : Tree) (v : V) → One k Is t v
      → AllOk kind (is_kind k) (out-Tree t).children
  one_ok {V} kind k Is ok t v h = each_ok kind k Is ok (out-Tree t).children (v ∷ []) (subst (λ (l : List Tree). Each Is l (v ∷ [])) (sym h.1) (h.2, tt))

  pub either_ok : (kind : ℕ) (p q : Tree → Bool) (cs : List Tree) → AllOk kind p cs → AllOk kind q cs → AllOk kind (λ c. p c || q c) cs
  either_ok kind p q [] a b = tt
  either_ok kind p q (c ∷ cs) a b = (λ e. elim (or_cases (p c) (q c) e) [ inl y ↦ a.0 y | inr y ↦ b.0 y ], either_ok kind p q cs a.1 b.1)

  pub check_none : (kind : ℕ) (cs : List Tree) → AllOk kind (has_place kind) cs → check_at input kind cs ≡ None
  check_none kind [] h = refl
  check_none kind (c ∷ cs) h =
      elim (cases_Bool (has_place kind c)) [
        | inl y ↦ rw (y, h.0 y) (check_none kind cs h.1)
        | inr n ↦ rw n (check_none kind cs h.1)
      ]
