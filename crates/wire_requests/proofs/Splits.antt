-- Splitting the children of a request at its package.
use Rattle.std.proofs.Common.{◌≡◌, ◌<◌, ◌+◌, ℕ, true, false, List, [], ◌∷◌, ◌++◌, length, take, drop, get_or, Option, Some, None, refl, sym, ap, subst, ◌∙◌, append_assoc, inl, inr}
use Rattle.std.specs.Prelude.{filter}
use Rattle.std.specs.List.{AllByRecursion}
use Rattle.std.proofs.lemmas.Bool.{cases_Bool}
use Rattle.std.proofs.lemmas.List.{append-nil, drop_more}
use Rattle.stream_objects.specs.declared.tree.Tree.{Tree}
use Rattle.stream_objects.specs.Objects.{is_kind}
use Rattle.wire_requests.specs.RequestReading.{behind_first, split}

abbrev pub Split : Type 0
Split = Option (List Tree × (Tree × List Tree))

-- these objects stand before it too
abbrev pub fronted : List Tree → Split → Split
fronted xs (Some s) = Some (xs ++ s.0, s.1)
fronted xs None = None

fronted_first : (xs : List Tree) (t : Tree) (s : Split) → fronted xs (behind_first t s) ≡ fronted (xs ++ t ∷ []) s
fronted_first xs t (Some s) = ap (λ (l : List Tree). Some (l, s.1)) (sym (append_assoc xs (t ∷ []) s.0))
fronted_first xs t None = refl

split_other : (t : Tree) (ts : List Tree) → is_kind 0x15 t ≡ false → split (t ∷ ts) ≡ behind_first t (split ts)
split_other t ts n = rw n refl

split_here : (t : Tree) (ts : List Tree) → is_kind 0x15 t ≡ true → split (t ∷ ts) ≡ Some ([], (t, ts))
split_here t ts y = rw y refl

-- the object at this place is another
pub goes_on : (ts : List Tree) (i : ℕ) (t : Tree) → i < length ts → t ≡ get_or ts i t → is_kind 0x15 t ≡ false → take (i + 1) ts ≡ take i ts ++ t ∷ [] → fronted (take i ts) (split (drop i ts)) ≡ fronted (take (i + 1) ts) (split (drop (i + 1) ts))
goes_on ts i t lt is n more =
    let there : drop i ts ≡ t ∷ drop (i + 1) ts = drop_more ts i t lt ∙ ap (λ (u : Tree). u ∷ drop (i + 1) ts) (sym is) in
    ap (λ (l : List Tree). fronted (take i ts) (split l)) there ∙ ap (fronted (take i ts)) (split_other t (drop (i + 1) ts) n) ∙ fronted_first (take i ts) t (split (drop (i + 1) ts))
    ∙ ap (λ (l : List Tree). fronted l (split (drop (i + 1) ts))) (sym more)

-- it is the package
pub stops_here : (ts : List Tree) (i : ℕ) (t : Tree) → i < length ts → t ≡ get_or ts i t → is_kind 0x15 t ≡ true → fronted (take i ts) (split (drop i ts)) ≡ Some (take i ts, (t, drop (i + 1) ts))
stops_here ts i t lt is y =
    let there : drop i ts ≡ t ∷ drop (i + 1) ts = drop_more ts i t lt ∙ ap (λ (u : Tree). u ∷ drop (i + 1) ts) (sym is) in
    ap (λ (l : List Tree). fronted (take i ts) (split l)) there ∙ ap (fronted (take i ts)) (split_here t (drop (i + 1) ts) y) ∙ ap (λ (l : List Tree). Some (l, (t, drop (i + 1) ts))) (append-nil (take i ts))

-- ---- the only package among the objects

pub record Parted (ts : List Tree) (c : Tree) : Type 0 where
  pub before : List Tree
  pub behind : List Tree
  pub is : split ts ≡ Some (before, (c, behind))
  pub all_are : ts ≡ before ++ (c ∷ behind)
  pub here : is_kind 0x15 c ≡ true
  pub none_before : AllByRecursion (λ t. is_kind 0x15 t ≡ false) before
  pub none_behind : AllByRecursion (λ t. is_kind 0x15 t ≡ false) behind

none_in : (ts : List Tree) → filter (is_kind 0x15) ts ≡ [] → AllByRecursion (λ t. is_kind 0x15 t ≡ false) ts
none_in [] e = tt
none_in (t ∷ ts) e =
    elim (cases_Bool (is_kind 0x15 t)) [
      | inl y ↦ let first : filter (is_kind 0x15) (t ∷ ts) ≡ t ∷ filter (is_kind 0x15) ts = rw y refl in absurd cc
      | inr n ↦ let first : filter (is_kind 0x15) (t ∷ ts) ≡ filter (is_kind 0x15) ts = rw n refl in (n, none_in ts (sym first ∙ e))
    ]

pub parted : (ts : List Tree) (c : Tree) → filter (is_kind 0x15) ts ≡ c ∷ [] → Parted ts c
parted [] c e = absurd cc
parted (t ∷ ts) c e =
    elim (cases_Bool (is_kind 0x15 t)) [
      | inl y ↦
          let first : filter (is_kind 0x15) (t ∷ ts) ≡ t ∷ filter (is_kind 0x15) ts = rw y refl in
          let both : t ∷ filter (is_kind 0x15) ts ≡ c ∷ [] = sym first ∙ e in
          let same : t ≡ c = cc in
          let none : filter (is_kind 0x15) ts ≡ [] = cc in
          record {
            before = [];
            behind = ts;
            is = split_here t ts y ∙ ap (λ (u : Tree). Some ([], (u, ts))) same;
            all_are = ap (λ (u : Tree). u ∷ ts) same;
            here = subst (λ (u : Tree). is_kind 0x15 u ≡ true) same y;
            none_before = tt;
            none_behind = none_in ts none;
          }
      | inr n ↦
          let first : filter (is_kind 0x15) (t ∷ ts) ≡ filter (is_kind 0x15) ts = rw n refl in
          let p = parted ts c (sym first ∙ e) in
          record {
            before = t ∷ p.before;
            behind = p.behind;
            is = split_other t ts n ∙ ap (behind_first t) p.is;
            all_are = ap (λ (l : List Tree). t ∷ l) p.all_are;
            here = p.here;
            none_before = (n, p.none_before);
            none_behind = p.none_behind;
          }
    ]
