-- Objects of one type behind those of another, as the children of an object.
use Rattle.std.proofs.Common.{◌≡◌, ℕ, ◌+◌, List, [], ◌∷◌, ◌++◌, length, map, sum, refl, sym, ap, subst, ◌∙◌, arith}
use Rattle.std.specs.Prelude.{filter}
use Rattle.std.specs.List.{AllByRecursion}
use Rattle.std.proofs.lemmas.List.{append-nil}
use Rattle.stream_objects.specs.Objects.{Each, Any, One, kind_of, is_kind}
use Rattle.stream_objects.specs.Trees.{Consecutive, IsObject, objects}
use Rattle.stream_objects.specs.declared.tree.Tree.{Tree}
use Rattle.stream_objects.specs.declared.tree.Tree.TheViews.{out-Tree}
use Rattle.stream_objects.proofs.Standing.{Whole, Run, two_runs, objects-append, objects-one, each_map, each_all, filter_all, filter_none, filter_two}

-- of this type, and so
abbrev pub Of : {V : Type 0} → ℕ → (Tree → V → Type 0) → Tree → V → Type 0
Of k R t v = (kind_of t ≡ k) × R t v

pub kinds_of : {V : Type 0} (k : ℕ) (R : Tree → V → Type 0) (ts : List Tree) (vs : List V) → Each (Of k R) ts vs → AllByRecursion (λ t. kind_of t ≡ k) ts
kinds_of {V} k R ts vs e = each_all (Of k R) (λ t. kind_of t ≡ k) (λ t v h. h.0) ts vs e

-- the children of the type, where they are these among the children
pub any_of : {V : Type 0} (k : ℕ) (R : Tree → V → Type 0) (vs : List V) (t : Tree) (all trees : List Tree) → (out-Tree t).children ≡ all → filter (is_kind k) all ≡ trees → Each (Of k R) trees vs → Any k R t vs
any_of {V} k R vs t all trees e f h = subst (λ (l : List Tree). Each R l vs) (sym (ap (filter (is_kind k)) e ∙ f)) (each_map (Of k R) R (λ u v g. g.1) trees vs h)

any_one : {V : Type 0} (R : Tree → V → Type 0) (v : V) (ts : List Tree) → Each R ts (v ∷ []) → (child : Tree) × (ts ≡ child ∷ []) × R child v
any_one {V} R v [] e = absurd e
any_one {V} R v (t ∷ []) e = (t, refl, e.0)
any_one {V} R v (t ∷ u ∷ us) e = absurd e.1

pub one_of : {V : Type 0} (k : ℕ) (R : Tree → V → Type 0) (v : V) (t : Tree) → Any k R t (v ∷ []) → One k R t v
one_of {V} k R v t h = any_one R v (filter (is_kind k) (out-Tree t).children) h

module _ (input : List ℕ) (levels : ℕ) where
  -- one object as a run of one
  pub single : {V : Type 0} (Is : Tree → V → Type 0) (v : V) (count from next : ℕ) → Whole input levels (λ t. Is t v) count from next → Run input levels Is (v ∷ []) count from next
  single {V} Is v count from next w = record {
    trees = w.tree ∷ [];
    standing = (next, w.object, refl);
    each = (w.is, tt);
    count_is = objects-one w.tree ∙ w.count_is;
  }

  -- Children of two types, and of three, with so many objects in all.
  pub record Two {A B : Type 0} (k l : ℕ) (R : Tree → A → Type 0) (S : Tree → B → Type 0) (us : List A) (vs : List B) (count from next : ℕ) : Type 0 where
    pub trees : List Tree
    pub standing : Consecutive (IsObject levels input) trees from next
    pub first : (t : Tree) → (out-Tree t).children ≡ trees → Any k R t us
    pub second : (t : Tree) → (out-Tree t).children ≡ trees → Any l S t vs
    pub count_is : sum (map objects trees) ≡ count

  pub two : {A B : Type 0} (k l : ℕ) (R : Tree → A → Type 0) (S : Tree → B → Type 0) (us : List A) (vs : List B) (i j p : ℕ) (x y : List ℕ) → (k ≡ l → ⊥) → Run input levels (Of k R) us i p (p + length x)
      → Run input levels (Of l S) vs j (p + length x) (p + length x + length y) → Two k l R S us vs (i + j) p (p + length (x ++ y))
  two {A} {B} k l R S us vs i j p x y ne a b =
      let ka = kinds_of k R a.trees us a.each in
      let kb = kinds_of l S b.trees vs b.each in
      let only_a : filter (is_kind k) (a.trees ++ b.trees) ≡ a.trees = filter_two k a.trees b.trees a.trees [] (filter_all k a.trees ka) (filter_none l k b.trees (λ e. ne (sym e)) kb) ∙ append-nil a.trees in
      let only_b : filter (is_kind l) (a.trees ++ b.trees) ≡ b.trees = filter_two l a.trees b.trees [] b.trees (filter_none k l a.trees ne ka) (filter_all l b.trees kb) in
      record {
        trees = a.trees ++ b.trees;
        standing = two_runs input levels p a.trees b.trees x y a.standing b.standing;
        first = λ t e. any_of k R us t (a.trees ++ b.trees) a.trees e only_a a.each;
        second = λ t e. any_of l S vs t (a.trees ++ b.trees) b.trees e only_b b.each;
        count_is = objects-append a.trees b.trees ∙ omega (arith, a.count_is, b.count_is);
      }

  pub record Three {A B C : Type 0} (k l m : ℕ) (R : Tree → A → Type 0) (S : Tree → B → Type 0) (T : Tree → C → Type 0) (us : List A) (vs : List B) (ws : List C) (count from next : ℕ) : Type 0 where
    pub trees : List Tree
    pub standing : Consecutive (IsObject levels input) trees from next
    pub first : (t : Tree) → (out-Tree t).children ≡ trees → Any k R t us
    pub second : (t : Tree) → (out-Tree t).children ≡ trees → Any l S t vs
    pub third : (t : Tree) → (out-Tree t).children ≡ trees → Any m T t ws
    pub count_is : sum (map objects trees) ≡ count

  pub three : {A B C : Type 0} (k l m : ℕ) (R : Tree → A → Type 0) (S : Tree → B → Type 0) (T : Tree → C → Type 0) (us : List A) (vs : List B) (ws : List C) (i j h p : ℕ) (x y z : List ℕ)
      → (k ≡ l → ⊥) → (k ≡ m → ⊥) → (l ≡ m → ⊥) → Run input levels (Of k R) us i p (p + length x)
      → Run input levels (Of l S) vs j (p + length x) (p + length x + length y) → Run input levels (Of m T) ws h (p + length (x ++ y)) (p + length (x ++ y) + length z)
      → Three k l m R S T us vs ws (i + j + h) p (p + length (x ++ y ++ z))
  three {A} {B} {C} k l m R S T us vs ws i j h p x y z kl km lm a b c =
      let ka = kinds_of k R a.trees us a.each in
      let kb = kinds_of l S b.trees vs b.each in
      let kc = kinds_of m T c.trees ws c.each in
      let front = a.trees ++ b.trees in
      let all = front ++ c.trees in
      let front_a : filter (is_kind k) front ≡ a.trees = filter_two k a.trees b.trees a.trees [] (filter_all k a.trees ka) (filter_none l k b.trees (λ e. kl (sym e)) kb) ∙ append-nil a.trees in
      let front_b : filter (is_kind l) front ≡ b.trees = filter_two l a.trees b.trees [] b.trees (filter_none k l a.trees kl ka) (filter_all l b.trees kb) in
      let front_c : filter (is_kind m) front ≡ [] = filter_two m a.trees b.trees [] [] (filter_none k m a.trees km ka) (filter_none l m b.trees lm kb) in
      let only_a : filter (is_kind k) all ≡ a.trees = filter_two k front c.trees a.trees [] front_a (filter_none m k c.trees (λ e. km (sym e)) kc) ∙ append-nil a.trees in
      let only_b : filter (is_kind l) all ≡ b.trees = filter_two l front c.trees b.trees [] front_b (filter_none m l c.trees (λ e. lm (sym e)) kc) ∙ append-nil b.trees in
      let only_c : filter (is_kind m) all ≡ c.trees = filter_two m front c.trees [] c.trees front_c (filter_all m c.trees kc) in
      record {
        trees = all;
        standing = two_runs input levels p front c.trees (x ++ y) z (two_runs input levels p a.trees b.trees x y a.standing b.standing) c.standing;
        first = λ t e. any_of k R us t all a.trees e only_a a.each;
        second = λ t e. any_of l S vs t all b.trees e only_b b.each;
        third = λ t e. any_of m T ws t all c.trees e only_c c.each;
        count_is = objects-append front c.trees ∙ omega (arith, objects-append a.trees b.trees, a.count_is, b.count_is, c.count_is);
      }
