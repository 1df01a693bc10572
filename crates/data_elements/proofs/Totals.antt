-- Sums over objects of which some are left out.
use Rattle.std.proofs.Common.{◌≡◌, ℕ, ◌+◌, ◌≤◌, Bool, true, false, List, [], ◌∷◌, map, sum, inl, inr, sym, ◌∙◌, arith}
use Rattle.std.specs.Prelude.{filter}
use Rattle.std.proofs.lemmas.Bool.{cases_Bool}
use Rattle.std.proofs.lemmas.Bool.Decides.{eqb_tells}
use Rattle.std.proofs.lemmas.List.Sums.{sum_by-append}
use Rattle.stream_objects.specs.Objects.{kind_of, is_kind}
use Rattle.stream_objects.specs.declared.tree.Tree.{Tree}

pub other_kind : (k l : ℕ) → (k ≡ l → ⊥) → (t : Tree) → is_kind k t ≡ true → is_kind l t ≡ false
other_kind k l ne t y =
    elim (eqb_tells (kind_of t) k) [
      | inl a ↦ elim (eqb_tells (kind_of t) l) [ inl b ↦ absurd (ne (sym a.1 ∙ b.1)) | inr b ↦ b.0 ]
      | inr a ↦ absurd (let no = a.0 in cc)
    ]

pub of_kind : (k : ℕ) (t : Tree) → is_kind k t ≡ true → kind_of t ≡ k
of_kind k t y = elim (eqb_tells (kind_of t) k) [ inl a ↦ a.1 | inr a ↦ absurd (let no = a.0 in cc) ]

module _ (f : Tree → ℕ) where
  abbrev pub total : List Tree → ℕ
  total ts = sum (map f ts)

  pub total-cons : (t : Tree) (ts : List Tree) → total (t ∷ ts) ≡ f t + total ts
  total-cons t ts = sum_by-append (λ n. n) (f t ∷ []) (map f ts) ∙ omega arith

  pub total_filter : (keep : Tree → Bool) (ts : List Tree) → total (filter keep ts) ≤ total ts
  total_filter keep [] = omega arith
  total_filter keep (t ∷ ts) =
      elim (cases_Bool (keep t)) [
        | inl y ↦ rw y (omega (arith, total-cons t ts, total-cons t (filter keep ts), total_filter keep ts))
        | inr n ↦ rw n (omega (arith, total-cons t ts, total_filter keep ts))
      ]

  -- what is kept by two tests, of which never both hold
  pub apart : (first second : Tree → Bool) → ((t : Tree) → first t ≡ true → second t ≡ false) → (ts : List Tree) → total (filter first ts) + total (filter second ts) ≤ total ts
  apart first second not_both [] = omega arith
  apart first second not_both (t ∷ ts) =
      elim (cases_Bool (first t)) [
        | inl y ↦ rw (y, not_both t y) (omega (arith, total-cons t ts, total-cons t (filter first ts), apart first second not_both ts))
        | inr n ↦ elim (cases_Bool (second t)) [
          | inl z ↦ rw (n, z) (omega (arith, total-cons t ts, total-cons t (filter second ts), apart first second not_both ts))
          | inr z ↦ rw (n, z) (omega (arith, total-cons t ts, apart first second not_both ts))
        ]
      ]

  -- and by three
  pub apart_three : (first second third : Tree → Bool) → ((t : Tree) → first t ≡ true → second t ≡ false) → ((t : Tree) → first t ≡ true → third t ≡ false) → ((t : Tree) → second t ≡ true → third t ≡ false)
      → (ts : List Tree) → total (filter first ts) + total (filter second ts) + total (filter third ts) ≤ total ts
  apart_three first second third ab ac bc [] = omega arith
  apart_three first second third ab ac bc (t ∷ ts) =
      elim (cases_Bool (first t)) [
        | inl y ↦ rw (y, ab t y, ac t y) (omega (arith, total-cons t ts, total-cons t (filter first ts), apart_three first second third ab ac bc ts))
        | inr n ↦ elim (cases_Bool (second t)) [
          | inl z ↦ rw (n, z, bc t z) (omega (arith, total-cons t ts, total-cons t (filter second ts), apart_three first second third ab ac bc ts))
          | inr z ↦ elim (cases_Bool (third t)) [
            | inl w ↦ rw (n, z, w) (omega (arith, total-cons t ts, total-cons t (filter third ts), apart_three first second third ab ac bc ts))
            | inr w ↦ rw (n, z, w) (omega (arith, total-cons t ts, apart_three first second third ab ac bc ts))
          ]
        ]
      ]
