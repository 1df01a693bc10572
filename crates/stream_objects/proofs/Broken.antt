-- The first part that isn't in its form.
use Rattle.std.proofs.Common.{◌≡◌, inl, inr, ℕ, List, [], ◌∷◌, ◌++◌, Result, Ok, Err, sym, ◌∙◌}
use Rattle.std.specs.List.{AllByRecursion}
use Rattle.stream_objects.specs.Parts.{IsFirstBroken}

module _ {P : Type 0} (InForm : P → Type 0) (start : P → ℕ) where
  -- what a reader of these parts answers: a value, where all are in form, or the first that isn't
  abbrev pub Judges : {V : Type 0} → (V → Type 0) → List P → Result V ℕ → Type 0
  Judges Is parts (Ok v) = Is v × AllByRecursion InForm parts
  Judges Is parts (Err place) = IsFirstBroken InForm start parts place

  pub all-append : (ps qs : List P) → AllByRecursion InForm ps → AllByRecursion InForm qs → AllByRecursion InForm (ps ++ qs)
  all-append [] qs a b = b
  all-append (p ∷ ps) qs a b = (a.0, all-append ps qs a.1 b)

  pub broken_left : (ps qs : List P) (place : ℕ) → IsFirstBroken InForm start ps place → IsFirstBroken InForm start (ps ++ qs) place
  broken_left [] qs place h = absurd h
  broken_left (p ∷ ps) qs place (inl h) = inl h
  broken_left (p ∷ ps) qs place (inr h) = inr (h.0, broken_left ps qs place h.1)

  pub broken_right : (ps qs : List P) (place : ℕ) → AllByRecursion InForm ps → IsFirstBroken InForm start qs place → IsFirstBroken InForm start (ps ++ qs) place
  broken_right [] qs place a h = h
  broken_right (p ∷ ps) qs place a h = inr (a.0, broken_right ps qs place a.1 h)

  pub one_broken : (ps : List P) (m n : ℕ) → IsFirstBroken InForm start ps m → IsFirstBroken InForm start ps n → m ≡ n
  one_broken [] m n g h = absurd g
  one_broken (p ∷ ps) m n (inl g) (inl h) = g.1 ∙ sym h.1
  one_broken (p ∷ ps) m n (inl g) (inr h) = absurd (g.0 h.0)
  one_broken (p ∷ ps) m n (inr g) (inl h) = absurd (h.0 g.0)
  one_broken (p ∷ ps) m n (inr g) (inr h) = one_broken ps m n g.1 h.1

  pub none_broken : (ps : List P) (place : ℕ) → AllByRecursion InForm ps → IsFirstBroken InForm start ps place → ⊥
  none_broken [] place a h = h
  none_broken (p ∷ ps) place a (inl h) = h.0 a.0
  none_broken (p ∷ ps) place a (inr h) = none_broken ps place a.1 h.1
