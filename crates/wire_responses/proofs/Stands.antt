-- Written objects stand as objects: one that holds one child, or one of each of two types, and one run of objects behind another.
use Rattle.std.proofs.Common.{◌≡◌, ℕ, suc, ◌+◌, ◌^◌, ◌<◌, ◌≤◌, true, List, [], ◌∷◌, ◌++◌, length, map, refl, ap, ◌∙◌, arith}
use Rattle.std.specs.Prelude.{filter}
use Rattle.std.specs.List.{flat_map, sum_by, AllByRecursion}
use Rattle.std.proofs.lemmas.List.Sums.{sum_by-append}
use Rattle.stream_objects.specs.Objects.{HasFields, One, Each, kind_of, is_kind}
use Rattle.stream_objects.specs.Written.{started, compound_object}
use Rattle.stream_objects.specs.declared.tree.Tree.{Tree}
use Rattle.stream_objects.proofs.Standing.{At, at_front, at_back, Whole, Run, branch, two_runs, objects-append, objects-one, filter_all}
use Rattle.data_elements.proofs.Runs.{Of, single, two, one_of}

pub each_join : {V : Type 0} (R : Tree → V → Type 0) (xs ys : List Tree) (us vs : List V) → Each R xs us → Each R ys vs → Each R (xs ++ ys) (us ++ vs)
each_join R [] ys [] vs g h = h
each_join R [] ys (u ∷ us) vs g h = absurd g
each_join R (x ∷ xs) ys [] vs g h = absurd g
each_join R (x ∷ xs) ys (u ∷ us) vs g h = (g.0, each_join R xs ys us vs g.1 h)

-- of what the values are made into
pub each_made : {A V : Type 0} (R : Tree → V → Type 0) (make : A → V) (ts : List Tree) (values_in : List A) → Each (λ t a. R t (make a)) ts values_in → Each R ts (map make values_in)
each_made R make [] [] e = tt
each_made R make (t ∷ ts) (a ∷ values_in) e = (e.0, each_made R make ts values_in e.1)
each_made R make [] (a ∷ values_in) e = e
each_made R make (t ∷ ts) [] e = e

module _ (input : List ℕ) where
  -- a compound object with fields, which holds one object of a type
  pub holder : {V W : Type 0} (m p kind k : ℕ) (Spells : V → List ℕ → Type 0) (v : V) (fields x : List ℕ) (R : Tree → W → Type 0) (w : W) (count : ℕ) → kind ≤ 16383 → length fields < 2 ^ 64 → Spells v fields
      → At input p (compound_object kind fields x)
      → Whole input m (λ t. Of k R t w) count (p + length (started kind true fields)) (p + length (started kind true fields) + length x)
      → Whole input (suc m) (λ t. (kind_of t ≡ kind) × (HasFields true Spells input t v × One k R t w)) (1 + count) p (p + length (compound_object kind fields x))
  holder m p kind k Spells v fields x R w count le short h a held =
      let q = p + length (started kind true fields) in
      branch input m p kind Spells v fields x (held.tree ∷ []) count le short h a (q + length x, held.object, refl) (objects-one held.tree ∙ held.count_is)
      (λ t. HasFields true Spells input t v × One k R t w)
      (λ t has e. (has, (held.tree, ap (filter (is_kind k)) e ∙ filter_all k (held.tree ∷ []) (held.is.0, tt), held.is.1)))

  -- and one that holds an object of each of two types
  pub both_held : {V A B : Type 0} (m p kind k l : ℕ) (Spells : V → List ℕ → Type 0) (v : V) (fields x y : List ℕ) (R : Tree → A → Type 0) (S : Tree → B → Type 0) (a : A) (b : B) (i j : ℕ) → (k ≡ l → ⊥)
      → kind ≤ 16383 → length fields < 2 ^ 64 → Spells v fields → At input p (compound_object kind fields (x ++ y))
      → Whole input m (λ t. Of k R t a) i (p + length (started kind true fields)) (p + length (started kind true fields) + length x)
      → Whole input m (λ t. Of l S t b) j (p + length (started kind true fields) + length x) (p + length (started kind true fields) + length x + length y)
      → Whole input (suc m) (λ t. (kind_of t ≡ kind) × (HasFields true Spells input t v × (One k R t a × One l S t b))) (1 + (i + j)) p (p + length (compound_object kind fields (x ++ y)))
  both_held m p kind k l Spells v fields x y R S a b i j ne le short h at first second =
      let q = p + length (started kind true fields) in
      let held = two input m k l R S (a ∷ []) (b ∷ []) i j q x y ne (single input m (Of k R) a i q (q + length x) first) (single input m (Of l S) b j (q + length x) (q + length x + length y) second) in
      branch input m p kind Spells v fields (x ++ y) held.trees (i + j) le short h at held.standing held.count_is (λ t. HasFields true Spells input t v × (One k R t a × One l S t b))
      (λ t has e. (has, (one_of k R a t (held.first t e), one_of l S b t (held.second t e))))

  -- runs of objects, one behind the other
  pub all_runs : {A V : Type 0} (levels : ℕ) (R : Tree → V → Type 0) (Fits : A → Type 0) (values : A → List V) (bytes_of : A → List ℕ) (count_of : A → ℕ)
      → ((a : A) (p : ℕ) → Fits a → At input p (bytes_of a) → Run input levels R (values a) (count_of a) p (p + length (bytes_of a)))
      → (values_in : List A) (p : ℕ) → AllByRecursion Fits values_in → At input p (flat_map bytes_of values_in) → Run input levels R (flat_map values values_in) (sum_by count_of values_in) p (p + length (flat_map bytes_of values_in))
  all_runs {A} {V} levels R Fits values bytes_of count_of one [] p f a = record { trees = []; standing = omega arith; each = tt; count_is = refl }
  all_runs {A} {V} levels R Fits values bytes_of count_of one (x ∷ xs) p f a =
      let b = bytes_of x in
      let c = flat_map bytes_of xs in
      let first = one x p f.0 (at_front input p b c a) in
      let rest = all_runs levels R Fits values bytes_of count_of one xs (p + length b) f.1 (at_back input p b c a) in
      record {
        trees = first.trees ++ rest.trees;
        standing = two_runs input levels p first.trees rest.trees b c first.standing rest.standing;
        each = each_join R first.trees rest.trees (values x) (flat_map values xs) first.each rest.each;
        count_is = objects-append first.trees rest.trees ∙ omega (arith, first.count_is, rest.count_is, sum_by-append count_of (x ∷ []) xs);
      }
