-- Each element of a request is written in no more stream objects than the request has.
use Rattle.std.proofs.Common.{◌≡◌, ℕ, ◌+◌, ◌*◌, ◌≤◌, ◌||◌, Bool, true, false, List, [], ◌∷◌, length, map, sum, refl, sym, inl, inr, ◌∙◌, arith}
use Rattle.std.specs.Prelude.{filter}
use Rattle.std.specs.List.{All, AllByRecursion}
use Rattle.std.proofs.lemmas.List.Elements.{All-from_recursion}
use Rattle.std.proofs.lemmas.Bool.{cases_Bool}
use Rattle.std.proofs.lemmas.Bool.Decides.{eqb_tells}
use Rattle.stream_objects.specs.Objects.{Each, Any, kind_of, is_kind, children_of}
use Rattle.stream_objects.specs.Trees.{objects}
use Rattle.stream_objects.specs.declared.tree.Tree.{Tree}
use Rattle.stream_objects.specs.declared.tree.Tree.TheViews.{out-Tree}
use Rattle.stream_objects.proofs.Unique.{objects-cons, objects_out}
use Rattle.wire_kinds.specs.Row.{IsOf}
use Rattle.doc_model.specs.wire.ElementRows.{manifest_mapping, cell_mapping, revision_mapping, manifest_root, revision_root, group_reference}
use Rattle.doc_model.specs.wire.Elements.{SaysBody, IsElement}
use Rattle.doc_model.specs.wire.Groups.{EachPair, SaysContent, SaysGroup, declarations_in, data_in}
use Rattle.doc_model.specs.wire.Requests.{IsRequest}
use Rattle.doc_model.specs.rules.Weights.{objects_in, objects_written}
use Rattle.doc_model.specs.declared.element.Body.{Body}
use Rattle.doc_model.specs.declared.element.Body.TheVariants.{Index, Storage, Cell, Revision, Group, Blob}
use Rattle.doc_model.specs.declared.element.Element.{Element}
use Rattle.doc_model.specs.declared.request.CellRequest.{CellRequest}

-- how many objects these trees have
abbrev pub total : List Tree → ℕ
total ts = sum (map objects ts)

-- an object and what its children have
total_children : (t : Tree) → objects t ≡ 1 + total (out-Tree t).children
total_children t = objects_out t

some_object : (t : Tree) → 1 ≤ objects t
some_object t = omega (arith, total_children t)

-- ---- the children that are kept

total_filter : (keep : Tree → Bool) (ts : List Tree) → total (filter keep ts) ≤ total ts
total_filter keep [] = omega arith
total_filter keep (t ∷ ts) =
    elim (cases_Bool (keep t)) [
      | inl y ↦ rw y (omega (arith, objects-cons t ts, objects-cons t (filter keep ts), total_filter keep ts))
      | inr n ↦ rw n (omega (arith, objects-cons t ts, total_filter keep ts))
    ]

length_total : (ts : List Tree) → length ts ≤ total ts
length_total [] = omega arith
length_total (t ∷ ts) = omega (arith, objects-cons t ts, some_object t, length_total ts)

-- what is kept by two tests, of which never both hold
pub apart : (first second : Tree → Bool) → ((t : Tree) → first t ≡ true → second t ≡ false) → (ts : List Tree) → total (filter first ts) + total (filter second ts) ≤ total ts
apart first second not_both [] = omega arith
apart first second not_both (t ∷ ts) =
    elim (cases_Bool (first t)) [
      | inl y ↦ rw (y, not_both t y) (omega (arith, objects-cons t ts, objects-cons t (filter first ts), apart first second not_both ts))
      | inr n ↦ elim (cases_Bool (second t)) [
        | inl z ↦ rw (n, z) (omega (arith, objects-cons t ts, objects-cons t (filter second ts), apart first second not_both ts))
        | inr z ↦ rw (n, z) (omega (arith, objects-cons t ts, apart first second not_both ts))
      ]
    ]

-- and by three
pub apart_three : (first second third : Tree → Bool) → ((t : Tree) → first t ≡ true → second t ≡ false) → ((t : Tree) → first t ≡ true → third t ≡ false) → ((t : Tree) → second t ≡ true → third t ≡ false)
    → (ts : List Tree) → total (filter first ts) + total (filter second ts) + total (filter third ts) ≤ total ts
apart_three first second third ab ac bc [] = omega arith
apart_three first second third ab ac bc (t ∷ ts) =
    elim (cases_Bool (first t)) [
      | inl y ↦ rw (y, ab t y, ac t y) (omega (arith, objects-cons t ts, objects-cons t (filter first ts), apart_three first second third ab ac bc ts))
      | inr n ↦ elim (cases_Bool (second t)) [
        | inl z ↦ rw (n, z, bc t z) (omega (arith, objects-cons t ts, objects-cons t (filter second ts), apart_three first second third ab ac bc ts))
        | inr z ↦ elim (cases_Bool (third t)) [
          | inl w ↦ rw (n, z, w) (omega (arith, objects-cons t ts, objects-cons t (filter third ts), apart_three first second third ab ac bc ts))
          | inr w ↦ rw (n, z, w) (omega (arith, objects-cons t ts, apart_three first second third ab ac bc ts))
        ]
      ]
    ]

other_kind : (k l : ℕ) → (k ≡ l → ⊥) → (t : Tree) → is_kind k t ≡ true → is_kind l t ≡ false
other_kind k l ne t y =
    elim (eqb_tells (kind_of t) k) [
      | inl a ↦ elim (eqb_tells (kind_of t) l) [ inl b ↦ absurd (ne (sym a.1 ∙ b.1)) | inr b ↦ b.0 ]
      | inr a ↦ absurd (let no = a.0 in cc)
    ]

-- ---- one for one

each_length : {V : Type 0} (Is : Tree → V → Type 0) (ts : List Tree) (vs : List V) → Each Is ts vs → length vs ≡ length ts
each_length {V} Is [] [] e = refl
each_length {V} Is (t ∷ ts) (v ∷ vs) e = omega (arith, each_length Is ts vs e.1)
each_length {V} Is [] (v ∷ vs) e = absurd e
each_length {V} Is (t ∷ ts) [] e = absurd e

pair_length : {V : Type 0} (Is : Tree → Tree → V → Type 0) (ds es : List Tree) (vs : List V) → EachPair Is ds es vs → (length vs ≡ length ds) × (length vs ≡ length es)
pair_length {V} Is [] [] [] e = (refl, refl)
pair_length {V} Is (d ∷ ds) (u ∷ us) (v ∷ vs) e = let r = pair_length Is ds us vs e.1 in (omega (arith, r.0), omega (arith, r.1))
pair_length {V} Is [] [] (v ∷ vs) e = absurd e
pair_length {V} Is [] (u ∷ us) vs e = absurd e
pair_length {V} Is (d ∷ ds) [] vs e = absurd e
pair_length {V} Is (d ∷ ds) (u ∷ us) [] e = absurd e

any_total : {V : Type 0} (k : ℕ) (Is : Tree → V → Type 0) (t : Tree) (vs : List V) → Any k Is t vs → length vs ≤ total (children_of k t)
any_total {V} k Is t vs h = omega (arith, each_length Is (children_of k t) vs h, length_total (children_of k t))

one_total : (k : ℕ) (t child : Tree) → children_of k t ≡ child ∷ [] → total (children_of k t) ≡ objects child
one_total k t child e = rw e (objects-cons child [] ∙ omega arith)

-- ---- elements

abbrev kids : Tree → List Tree
kids t = (out-Tree t).children

group_objects : (input : List ℕ) (t : Tree) (vs : List (Rattle.doc_model.specs.declared.element.Object.Object)) → SaysGroup input t vs → 2 + 2 * length vs ≤ total (kids t)
group_objects input t vs g =
    let r = pair_length (λ d e o. SaysContent input d e o o.content) (declarations_in g.declarations) (data_in g.data_of) vs g.pairs in
    omega (
      arith,
      r.0,
      r.1,
      length_total (declarations_in g.declarations),
      length_total (data_in g.data_of),
      total_filter (λ c. is_kind 0x18 c || is_kind 0x05 c) (kids g.declarations),
      total_filter (λ c. is_kind 0x16 c || is_kind 0x1C c) (kids g.data_of),
      total_children g.declarations,
      total_children g.data_of,
      one_total 0x1D t g.declarations g.one_declarations,
      one_total 0x1E t g.data_of g.one_data,
      apart (is_kind 0x1D) (is_kind 0x1E) (other_kind 0x1D 0x1E (λ e. omega (arith, e))) (kids t),
    )

body_objects : (input : List ℕ) (t : Tree) (kind : ℕ) (body : Body) → SaysBody input t kind body → objects_in body ≤ total (kids t)
body_objects input t kind (Index manifests cells revisions) h =
    omega (
      arith,
      any_total 0x11 (IsOf manifest_mapping input) t manifests h.1,
      any_total 0x0E (IsOf cell_mapping input) t cells h.2,
      any_total 0x0D (IsOf revision_mapping input) t revisions h.3,
      apart_three (is_kind 0x11) (is_kind 0x0E) (is_kind 0x0D) (other_kind 0x11 0x0E (λ e. omega (arith, e))) (other_kind 0x11 0x0D (λ e. omega (arith, e))) (other_kind 0x0E 0x0D (λ e. omega (arith, e))) (kids t),
    )
body_objects input t kind (Storage schema roots) h =
    omega (arith, one_total 0x0C t h.1.0 h.1.1, some_object h.1.0, any_total 0x07 (IsOf manifest_root input) t roots h.2, apart (is_kind 0x0C) (is_kind 0x07) (other_kind 0x0C 0x07 (λ e. omega (arith, e))) (kids t))
body_objects input t kind (Cell current) h = omega (arith, one_total 0x0B t h.1.0 h.1.1, some_object h.1.0, total_filter (is_kind 0x0B) (kids t))
body_objects input t kind (Revision id base roots groups) h =
    omega (
      arith,
      one_total 0x1A t h.1.0 h.1.1,
      some_object h.1.0,
      any_total 0x0A (IsOf revision_root input) t roots h.2,
      any_total 0x19 (IsOf group_reference input) t groups h.3,
      apart_three (is_kind 0x1A) (is_kind 0x0A) (is_kind 0x19) (other_kind 0x1A 0x0A (λ e. omega (arith, e))) (other_kind 0x1A 0x19 (λ e. omega (arith, e))) (other_kind 0x0A 0x19 (λ e. omega (arith, e))) (kids t),
    )
body_objects input t kind (Group vs) h = group_objects input t vs h.1
body_objects input t kind (Blob bytes) h = omega (arith, one_total 0x02 t h.1.0 h.1.1, some_object h.1.0, total_filter (is_kind 0x02) (kids t))

element_objects : (input : List ℕ) (t : Tree) (e : Element) → IsElement input t e → objects_written e ≤ objects t
element_objects input t e h = omega (arith, total_children t, body_objects input t h.1.0 e.body h.1.2)

-- ---- all of them

few_each : (input : List ℕ) (n : ℕ) (ts : List Tree) (es : List Element) → Each (IsElement input) ts es → total ts ≤ n → AllByRecursion (λ e. objects_written e ≤ n) es
few_each input n [] [] h le = tt
few_each input n (t ∷ ts) (e ∷ es) h le =
    (omega (arith, element_objects input t e h.0, objects-cons t ts, le), few_each input n ts es h.1 (omega (arith, objects-cons t ts, le)))
few_each input n [] (e ∷ es) h le = absurd h
few_each input n (t ∷ ts) [] h le = absurd h

pub few_objects : (bytes : List ℕ) (r : CellRequest) → IsRequest bytes r → All (λ e. objects_written e ≤ 262144) r.elements
few_objects bytes r q =
    let pack = q.form.one_package.0 in
    let all : total (children_of 0x01 pack) ≤ 262144 =
    omega (arith, total_filter (is_kind 0x01) (kids pack), total_children pack, one_total 0x15 q.tree pack q.form.one_package.1, total_filter (is_kind 0x15) (kids q.tree), total_children q.tree, q.stands.few)
    in
    All-from_recursion (λ e. objects_written e ≤ 262144) r.elements (few_each bytes 262144 (children_of 0x01 pack) r.elements q.form.one_package.2.1 all)
