-- What is written stands in an input as objects.
use Rattle.std.proofs.Common.{◌≡◌, ℕ, suc, ◌+◌, ◌-◌, ◌^◌, ◌<◌, ◌≤◌, Bool, true, false, List, [], ◌∷◌, ◌++◌, length, drop, map, sum, inl, inr, refl, sym, ap, subst, ◌∙◌, append_assoc, rules, arith}
use Rattle.std.specs.Prelude.{filter, nat_le}
use Rattle.std.specs.List.{slice_range, flat_map, sum_by, AllByRecursion}
use Rattle.std.proofs.lemmas.Bool.{cases_lt, lt-ltb, le-ltb, cases_Bool}
use Rattle.std.proofs.lemmas.Bool.Decides.{nat_tests, eqb_tells}
use Rattle.std.proofs.lemmas.List.{length-append, map-append, drop_at, take_at}
use Rattle.std.proofs.lemmas.List.Sums.{sum_by-append}
use Rattle.compact_values.specs.Spelled.{IsSpelledAt}
use Rattle.compact_values.specs.declared.span.Span.{Span}
use Rattle.stream_objects.specs.Headers.{IsStart, IsEnd, StartFits, EndFits, start_bytes, start_form, end_bytes, end_form}
use Rattle.stream_objects.specs.HeaderValues.{SpellsHeader}
use Rattle.stream_objects.specs.Objects.{HasFields, Each, kind_of, is_kind, fields_of}
use Rattle.stream_objects.specs.Trees.{Consecutive, StartsAt, EndsBehind, IsObject, objects}
use Rattle.stream_objects.specs.Written.{started, simple_object, compound_object}
use Rattle.stream_objects.specs.declared.headers.Header.TheVariants.{End}
use Rattle.stream_objects.specs.declared.tree.Tree.{Tree}
use Rattle.stream_objects.specs.declared.tree.Tree.TheOpen.{Tree-F}
use Rattle.stream_objects.specs.declared.tree.Tree.TheViews.{out-Tree, roll-Tree, the_lemmas}
use Rattle.stream_objects.proofs.Begun.{node, objects_of}
use Rattle.stream_objects.proofs.Unique.{objects-cons}

-- The bytes stand at a place of the input.
pub record At (input : List ℕ) (p : ℕ) (bytes : List ℕ) : Type 0 where
  pub before : List ℕ
  pub behind : List ℕ
  pub input_is : input ≡ before ++ (bytes ++ behind)
  pub place : length before ≡ p

module _ (input : List ℕ) where
  pub at_front : (p : ℕ) (x y : List ℕ) → At input p (x ++ y) → At input p x
  at_front p x y a = record { before = a.before; behind = y ++ a.behind; input_is = a.input_is ∙ ap (λ (l : List ℕ). a.before ++ l) (append_assoc x y a.behind); place = a.place }

  pub at_back : (p : ℕ) (x y : List ℕ) → At input p (x ++ y) → At input (p + length x) y
  at_back p x y a = record {
    before = a.before ++ x;
    behind = a.behind;
    input_is = a.input_is ∙ ap (λ (l : List ℕ). a.before ++ l) (append_assoc x y a.behind) ∙ sym (append_assoc a.before x (y ++ a.behind));
    place = omega (arith, a.place, length-append a.before x);
  }

  pub at_slice : (p : ℕ) (x : List ℕ) → At input p x → slice_range input p (p + length x) ≡ x
  at_slice p x a =
      let len : p + length x - p ≡ length x = omega arith in
      let there : drop p input ≡ x ++ a.behind = ap (drop p) a.input_is ∙ drop_at a.before (x ++ a.behind) p a.place in
      rw (len, there) (take_at x a.behind (length x) refl)

  pub at_inside : (p : ℕ) (x : List ℕ) → At input p x → p + length x ≤ length input
  at_inside p x a = omega (arith, a.place, ap (λ (l : List ℕ). length l) a.input_is, length-append a.before (x ++ a.behind), length-append x a.behind)

  -- ---- headers

  start_fits : (kind len : ℕ) → kind ≤ 16383 → len < 2 ^ 64 → StartFits (start_form kind len) kind len
  start_fits kind len k l =
      elim (cases_lt 63 kind) [
        | inl a ↦
            let not_small : nat_le kind 63 ≡ false = grind (arith, nat_tests) in
            elim (cases_lt len 32767) [ inl b ↦ rw (not_small, lt-ltb len 32767 b) (omega arith, b) | inr b ↦ rw (not_small, le-ltb len 32767 b) (omega arith, l) ]
        | inr a ↦
            let low : nat_le kind 63 ≡ true = grind (arith, nat_tests) in
            elim (cases_lt 127 len) [
              | inl c ↦
                  let long : nat_le len 127 ≡ false = grind (arith, nat_tests) in
                  elim (cases_lt len 32767) [ inl b ↦ rw (low, long, lt-ltb len 32767 b) (omega arith, b) | inr b ↦ rw (low, long, le-ltb len 32767 b) (omega arith, l) ]
              | inr c ↦
                  let short : nat_le len 127 ≡ true = grind (arith, nat_tests) in
                  rw (low, short) (a, c)
            ]
      ]

  end_fits : (kind : ℕ) → kind ≤ 16383 → EndFits (end_form kind) kind
  end_fits kind k =
      elim (cases_lt 63 kind) [
        | inl a ↦ let not_small : nat_le kind 63 ≡ false = grind (arith, nat_tests) in rw not_small (omega arith)
        | inr a ↦ let low : nat_le kind 63 ≡ true = grind (arith, nat_tests) in rw low a
      ]

  header_of : ℕ → Bool → List ℕ → List ℕ
  header_of kind compound fields = start_bytes (start_form kind (length fields)) kind compound (length fields)

  -- where the fields stand
  span_at : ℕ → ℕ → Bool → List ℕ → Span
  span_at p kind compound fields = record { from = p + length (header_of kind compound fields); to = p + length (header_of kind compound fields) + length fields }

  starts_at : (p kind : ℕ) (compound : Bool) (fields : List ℕ) → kind ≤ 16383 → length fields < 2 ^ 64 → At input p (started kind compound fields) → StartsAt input kind compound (span_at p kind compound fields) p
  unfolding started header_of span_at
  starts_at p kind compound fields k l a =
      let h = start_bytes (start_form kind (length fields)) kind compound (length fields) in
      let front = at_front p h fields a in
      let count : p + length h + length fields - (p + length h) ≡ length fields = omega arith in
      let start : IsStart kind compound (length fields) (slice_range input p (p + length h)) = record { form = start_form kind (length fields); fits = start_fits kind (length fields) k l; bytes_are = at_slice p h front } in
      record {
        header = record { order = omega arith; inside = at_inside p h front; spelled = rw count start };
        order = omega arith;
        inside = at_inside (p + length h) fields (at_back p h fields a);
      }

  out_roll : (t : Tree-F Tree) → out-Tree (roll-Tree t) ≡ t
  out_roll t = search (rules, the_lemmas)

  -- An object stands there, with these fields and children.
  pub record Stood (levels from next kind : ℕ) (compound : Bool) (fields : List ℕ) (children : List Tree) : Type 0 where
    pub tree : Tree
    pub object : IsObject levels input tree from next
    pub kind_is : kind_of tree ≡ kind
    pub mark : (out-Tree tree).compound ≡ compound
    pub fields_are : fields_of input tree ≡ fields
    pub children_are : (out-Tree tree).children ≡ children
    pub count_is : objects tree ≡ 1 + sum (map objects children)

  stood : (n p next kind : ℕ) (compound : Bool) (fields : List ℕ) (children : List Tree) → StartsAt input kind compound (span_at p kind compound fields) p
      → At input p (started kind compound fields) → EndsBehind (IsObject n input) input (node kind compound (span_at p kind compound fields) children) compound next
      → Stood (suc n) p next kind compound fields children
  unfolding IsObject started header_of span_at
  stood n p next kind compound fields children s a b =
      let t = node kind compound (span_at p kind compound fields) children in
      let h = start_bytes (start_form kind (length fields)) kind compound (length fields) in
      let e = out_roll t in
      record {
        tree = roll-Tree t;
        object = subst (λ (u : Tree-F Tree). StartsAt input u.kind u.compound u.fields p × EndsBehind (IsObject n input) input u u.compound next) (sym e) (s, b);
        kind_is = ap (λ (u : Tree-F Tree). u.kind) e;
        mark = ap (λ (u : Tree-F Tree). u.compound) e;
        fields_are = ap (λ (u : Tree-F Tree). slice_range input u.fields.from u.fields.to) e ∙ at_slice (p + length h) fields (at_back p h fields a);
        children_are = ap (λ (u : Tree-F Tree). u.children) e;
        count_is = objects_of t;
      }

  length_started : (kind : ℕ) (compound : Bool) (fields : List ℕ) → length (started kind compound fields) ≡ length (header_of kind compound fields) + length fields
  unfolding started header_of
  length_started kind compound fields = length-append (start_bytes (start_form kind (length fields)) kind compound (length fields)) fields

  pub simple_stands : (n p kind : ℕ) (fields : List ℕ) → kind ≤ 16383 → length fields < 2 ^ 64 → At input p (simple_object kind fields)
      → Stood (suc n) p (p + length (simple_object kind fields)) kind false fields []
  unfolding span_at
  simple_stands n p kind fields k l a =
      stood n p (p + length (simple_object kind fields)) kind false fields [] (starts_at p kind false fields k l a) a (refl, omega (arith, length_started kind false fields))

  pub compound_stands : (n p kind : ℕ) (fields bytes : List ℕ) (children : List Tree) → kind ≤ 16383 → length fields < 2 ^ 64 → At input p (compound_object kind fields bytes)
      → Consecutive (IsObject n input) children (p + length (started kind true fields)) (p + length (started kind true fields) + length bytes)
      → Stood (suc n) p (p + length (compound_object kind fields bytes)) kind true fields children
  unfolding span_at
  compound_stands n p kind fields bytes children k l a c =
      let s = started kind true fields in
      let e = end_bytes (end_form kind) kind in
      let front = at_front p s (bytes ++ e) a in
      let back = at_back p s (bytes ++ e) a in
      let ended = at_back (p + length s) bytes e back in
      let len = length_started kind true fields in
      let next : p + length s + length bytes + length e ≡ p + length (compound_object kind fields bytes) = omega (arith, length-append s (bytes ++ e), length-append bytes e) in
      let is_end : IsEnd kind (slice_range input (p + length s + length bytes) (p + length s + length bytes + length e)) =
      record { form = end_form kind; fits = end_fits kind k; bytes_are = at_slice (p + length s + length bytes) e ended } in
      let spelled : IsSpelledAt SpellsHeader (End kind) input (p + length s + length bytes) (p + length s + length bytes + length e) =
      record { order = omega arith; inside = at_inside (p + length s + length bytes) e ended; spelled = is_end } in
      let to : p + length s ≡ (span_at p kind true fields).to = omega (arith, len) in
      stood n p (p + length (compound_object kind fields bytes)) kind true fields children (starts_at p kind true fields k l front) front
      (p + length s + length bytes, subst (λ (m : ℕ). Consecutive (IsObject n input) children m (p + length s + length bytes)) to c, subst (λ (m : ℕ). IsSpelledAt SpellsHeader (End kind) input (p + length s + length bytes) m) next spelled)

  -- ---- several objects

  pub consecutive_append : {T : Type 0} (P : T → ℕ → ℕ → Type 0) (xs ys : List T) (a b c : ℕ) → Consecutive P xs a b → Consecutive P ys b c → Consecutive P (xs ++ ys) a c
  consecutive_append P [] ys a b c h k = subst (λ (m : ℕ). Consecutive P ys m c) (sym h) k
  consecutive_append P (x ∷ xs) ys a b c h k = (h.0, h.1, consecutive_append P xs ys h.0 b c h.2 k)

  -- An object that is so stands there, with so many objects in all.
  pub record Whole (levels : ℕ) (Is : Tree → Type 0) (count from next : ℕ) : Type 0 where
    pub tree : Tree
    pub object : IsObject levels input tree from next
    pub is : Is tree
    pub count_is : objects tree ≡ count

  -- Objects stand there, one for each value, with so many objects in all.
  pub record Run {V : Type 0} (levels : ℕ) (Is : Tree → V → Type 0) (vs : List V) (count from next : ℕ) : Type 0 where
    pub trees : List Tree
    pub standing : Consecutive (IsObject levels input) trees from next
    pub each : Each Is trees vs
    pub count_is : sum (map objects trees) ≡ count

  -- a simple object whose fields spell a value
  pub leaf : {V : Type 0} (n p kind : ℕ) (Spells : V → List ℕ → Type 0) (v : V) (fields : List ℕ) → kind ≤ 16383 → length fields < 2 ^ 64 → Spells v fields → At input p (simple_object kind fields)
      → Whole (suc n) (λ t. (kind_of t ≡ kind) × HasFields false Spells input t v) 1 p (p + length (simple_object kind fields))
  leaf n p kind Spells v fields k l h a =
      let s = simple_stands n p kind fields k l a in
      record {
        tree = s.tree;
        object = s.object;
        is = (s.kind_is, record { mark = s.mark; fields = subst (Spells v) (sym s.fields_are) h });
        count_is = s.count_is;
      }

  pub all_stand : {V : Type 0} (levels : ℕ) (Is : Tree → V → Type 0) (Fits : V → Type 0) (bytes_of : V → List ℕ) (count_of : V → ℕ)
      → ((v : V) (p : ℕ) → Fits v → At input p (bytes_of v) → Whole levels (λ t. Is t v) (count_of v) p (p + length (bytes_of v)))
      → (vs : List V) (p : ℕ) → AllByRecursion Fits vs → At input p (flat_map bytes_of vs) → Run levels Is vs (sum_by count_of vs) p (p + length (flat_map bytes_of vs))
  all_stand {V} levels Is Fits bytes_of count_of one [] p f a = record { trees = []; standing = omega arith; each = tt; count_is = refl }
  all_stand {V} levels Is Fits bytes_of count_of one (v ∷ vs) p f a =
      let x = bytes_of v in
      let y = flat_map bytes_of vs in
      let w = one v p f.0 (at_front p x y a) in
      let rest = all_stand levels Is Fits bytes_of count_of one vs (p + length x) f.1 (at_back p x y a) in
      let end : p + length x + length y ≡ p + length (x ++ y) = omega (arith, length-append x y) in
      record {
        trees = w.tree ∷ rest.trees;
        standing = (p + length x, w.object, subst (λ (m : ℕ). Consecutive (IsObject levels input) rest.trees (p + length x) m) end rest.standing);
        each = (w.is, rest.each);
        count_is = objects-cons w.tree rest.trees ∙ omega (arith, w.count_is, rest.count_is, sum_by-append count_of (v ∷ []) vs);
      }

  -- what a compound object holds stands behind its fields
  pub inside_at : (p kind : ℕ) (fields bytes : List ℕ) → At input p (compound_object kind fields bytes) → At input (p + length (started kind true fields)) bytes
  inside_at p kind fields bytes a =
      let e = end_bytes (end_form kind) kind in
      at_front (p + length (started kind true fields)) bytes e (at_back p (started kind true fields) (bytes ++ e) a)

  -- a compound object whose fields spell a value, with objects that stand in it
  pub branch : {V : Type 0} (n p kind : ℕ) (Spells : V → List ℕ → Type 0) (v : V) (fields bytes : List ℕ) (children : List Tree) (count : ℕ) → kind ≤ 16383 → length fields < 2 ^ 64 → Spells v fields
      → At input p (compound_object kind fields bytes) → Consecutive (IsObject n input) children (p + length (started kind true fields)) (p + length (started kind true fields) + length bytes)
      → sum (map objects children) ≡ count → (Is : Tree → Type 0) → ((t : Tree) → HasFields true Spells input t v → (out-Tree t).children ≡ children → Is t)
      → Whole (suc n) (λ t. (kind_of t ≡ kind) × Is t) (1 + count) p (p + length (compound_object kind fields bytes))
  branch n p kind Spells v fields bytes children count k l h a c e Is is =
      let s = compound_stands n p kind fields bytes children k l a c in
      record {
        tree = s.tree;
        object = s.object;
        is = (s.kind_is, is s.tree (record { mark = s.mark; fields = subst (Spells v) (sym s.fields_are) h }) s.children_are);
        count_is = s.count_is ∙ ap (λ (m : ℕ). 1 + m) e;
      }

  -- the same, said in another way
  pub whole_map : (levels count from next : ℕ) (P Q : Tree → Type 0) → ((t : Tree) → P t → Q t) → Whole levels P count from next → Whole levels Q count from next
  whole_map levels count from next P Q f w = record { tree = w.tree; object = w.object; is = f w.tree w.is; count_is = w.count_is }

  -- one list of objects behind another
  pub two_runs : (levels p : ℕ) (ls rs : List Tree) (x y : List ℕ) → Consecutive (IsObject levels input) ls p (p + length x) → Consecutive (IsObject levels input) rs (p + length x) (p + length x + length y)
      → Consecutive (IsObject levels input) (ls ++ rs) p (p + length (x ++ y))
  two_runs levels p ls rs x y h k =
      let end : p + length x + length y ≡ p + length (x ++ y) = omega (arith, length-append x y) in
      consecutive_append (IsObject levels input) ls rs p (p + length x) (p + length (x ++ y)) h (subst (λ (m : ℕ). Consecutive (IsObject levels input) rs (p + length x) m) end k)

pub objects-append : (ls rs : List Tree) → sum (map objects (ls ++ rs)) ≡ sum (map objects ls) + sum (map objects rs)
objects-append ls rs = rw map-append (sum_by-append (λ n. n) (map objects ls) (map objects rs))

pub objects-one : (t : Tree) → sum (map objects (t ∷ [])) ≡ objects t
objects-one t = objects-cons t [] ∙ omega arith

pub ones : {V : Type 0} (vs : List V) → sum_by (λ (v : V). 1) vs ≡ length vs
ones {V} [] = refl
ones {V} (v ∷ vs) = omega (arith, sum_by-append (λ (u : V). 1) (v ∷ []) vs, ones vs)

-- what holds of each pair
pub each_map : {V : Type 0} (P Q : Tree → V → Type 0) → ((t : Tree) (v : V) → P t v → Q t v) → (ts : List Tree) (vs : List V) → Each P ts vs → Each Q ts vs
each_map {V} P Q f [] [] e = tt
each_map {V} P Q f (t ∷ ts) (v ∷ vs) e = (f t v e.0, each_map P Q f ts vs e.1)
each_map {V} P Q f [] (v ∷ vs) e = e
each_map {V} P Q f (t ∷ ts) [] e = e

pub each_all : {V : Type 0} (P : Tree → V → Type 0) (Q : Tree → Type 0) → ((t : Tree) (v : V) → P t v → Q t) → (ts : List Tree) (vs : List V) → Each P ts vs → AllByRecursion Q ts
each_all {V} P Q f [] [] e = tt
each_all {V} P Q f (t ∷ ts) (v ∷ vs) e = (f t v e.0, each_all P Q f ts vs e.1)
each_all {V} P Q f [] (v ∷ vs) e = tt
each_all {V} P Q f (t ∷ ts) [] e = absurd e

pub filter_true : (keep : Tree → Bool) (ts : List Tree) → AllByRecursion (λ t. keep t ≡ true) ts → filter keep ts ≡ ts
filter_true keep [] h = refl
filter_true keep (t ∷ ts) h = rw h.0 (ap (λ (l : List Tree). t ∷ l) (filter_true keep ts h.1))

pub filter_all : (k : ℕ) (ts : List Tree) → AllByRecursion (λ t. kind_of t ≡ k) ts → filter (is_kind k) ts ≡ ts
filter_all k [] h = refl
filter_all k (t ∷ ts) h =
    elim (eqb_tells (kind_of t) k) [
      | inl y ↦ rw y.0 (ap (λ (l : List Tree). t ∷ l) (filter_all k ts h.1))
      | inr n ↦ absurd (n.1 h.0)
    ]

pub filter_none : (k l : ℕ) (ts : List Tree) → (k ≡ l → ⊥) → AllByRecursion (λ t. kind_of t ≡ k) ts → filter (is_kind l) ts ≡ []
filter_none k l [] ne h = refl
filter_none k l (t ∷ ts) ne h =
    elim (eqb_tells (kind_of t) l) [
      | inl y ↦ absurd (ne (sym h.0 ∙ y.1))
      | inr n ↦ rw n.0 (filter_none k l ts ne h.1)
    ]

pub filter_join : (k : ℕ) (xs ys : List Tree) → filter (is_kind k) (xs ++ ys) ≡ filter (is_kind k) xs ++ filter (is_kind k) ys
filter_join k [] ys = refl
filter_join k (x ∷ xs) ys =
    elim (cases_Bool (is_kind k x)) [
      | inl y ↦ rw (y, filter_join k xs ys) refl
      | inr n ↦ rw (n, filter_join k xs ys) refl
    ]

pub filter_two : (k : ℕ) (ls rs xs ys : List Tree) → filter (is_kind k) ls ≡ xs → filter (is_kind k) rs ≡ ys → filter (is_kind k) (ls ++ rs) ≡ xs ++ ys
filter_two k ls rs xs ys e f = filter_join k ls rs ∙ rw (e, f) refl
