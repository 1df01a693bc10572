-- The callers of a closed document are all callers of its history.
use Rattle.std.proofs.Common.{◌≡◌, ◌≢◌, ℕ, zero, suc, ◌<◌, ◌==◌, nat_eq, Bool, true, false, cond, List, [], ◌∷◌, length, map, filter, get_or, refl, sym, ap, ◌∙◌, subst, arith, eq-eqb, ne_eqb, inl, inr}
use Rattle.std.specs.Prelude.{◌⊎◌}
use Rattle.std.specs.List.{All, Any, AllByRecursion as Each, IsDistinct}
use Rattle.std.proofs.lemmas.List.Elements.{All-from_recursion, All-cons}
use mathlib.Core.Logic.{dite}
use mathlib.Core.Option.{some}
use native.Mathlib.Decide.{ℕ_discrete}
use lib.ListN.{get_elem?}
use Rattle.turn_board.specs.declared.view.Ended.{Ended}
use Rattle.turn_board.specs.Calls.{calls_by}
use Rattle.turn_board.specs.Rule.{AreApart}
use Rattle.doc_model.specs.declared.call.Call.{Call}
use Rattle.doc_model.specs.declared.doc.Doc.{Doc}
use Rattle.doc_model.specs.declared.made.Made.{Made}
use Rattle.doc_model.specs.rules.Histories.{History, Placed, Stands, answered}
use Rattle.doc_model.specs.laws.Histories.{AreCallers}
use Rattle.doc_model.proofs.OneThread.{one-thread}
use Rattle.doc_host.specs.declared.journaled.Opening.{Opening}
use Rattle.doc_host.specs.Attempts.{attempts}
use Rattle.doc_host.specs.Seats.{Known}
use Rattle.doc_host.specs.Passes.{HasClosed}
use Rattle.doc_host.specs.Callers.{caller, callers_of, AllAreOneThread}

-- those of the ended numbers
abbrev others_of : List (Ended Call Made) → List (ℕ × List Placed)
others_of es = map (λ e. caller e.number e.made) es

-- ---- the numbers differ

differs : (n : ℕ) (es : List (Ended Call Made)) → ((i : ℕ) (e : Ended Call Made) → get_elem? es i ≡ some e → n ≢ e.number) → Each (λ m. nat_eq n m ≡ false) (map (λ (c : ℕ × List Placed). c.0) (others_of es))
differs n [] h = tt
differs n (e ∷ es) h = (ne_eqb n e.number (h 0 e refl), differs n es (λ i x p. h (suc i) x p))

no_later : (i : ℕ) → zero ≡ suc i → ⊥
no_later i e = absurd (omega (arith, e))

one_less : (i k : ℕ) → suc i ≡ suc k → i ≡ k
one_less i k e = omega (arith, e)

distinct : (es : List (Ended Call Made)) → AreApart es → IsDistinct nat_eq (map (λ (c : ℕ × List Placed). c.0) (others_of es))
unfolding IsDistinct
distinct [] a = tt
distinct (e ∷ es) a = (
  differs e.number es (λ i x p same. no_later i (a 0 (suc i) e x refl p same)),
  distinct es (λ i k x y p q same. one_less i k (a (suc i) (suc k) x y p q same)),
)

distinct_all : (n : ℕ) (mine : List Placed) (es : List (Ended Call Made)) → ((i : ℕ) (e : Ended Call Made) → get_elem? es i ≡ some e → n ≢ e.number) → AreApart es
    → IsDistinct nat_eq (map (λ (c : ℕ × List Placed). c.0) ((n, mine) ∷ others_of es))
unfolding IsDistinct
distinct_all n mine es h a = (differs n es h, distinct es a)

-- ---- the calls of each stand in the history

others_stand : (doc : Doc) (history : History) (es : List (Ended Call Made)) → ((i : ℕ) (e : Ended Call Made) → get_elem? es i ≡ some e → Stands doc history e.number (answered (attempts e.made)))
    → Each (λ (c : ℕ × List Placed). Stands doc history c.0 c.1) (others_of es)
others_stand doc history [] h = tt
others_stand doc history (e ∷ es) h = (h 0 e refl, others_stand doc history es (λ i x p. h (suc i) x p))

-- ---- each change is some caller's

find : (n : ℕ) (cs : List (ℕ × List Placed)) → Any (λ c. c.0 ≡ n) cs ⊎ Each (λ c. c.0 ≢ n) cs
find n [] = inr tt
find n (c ∷ cs) = dite (ℕ_discrete c.0 n) (λ e. inl (0, c, omega arith, refl, e)) (λ ne. later (find n cs) ne) where
  later : Any (λ c. c.0 ≡ n) cs ⊎ Each (λ c. c.0 ≢ n) cs → c.0 ≢ n → Any (λ c. c.0 ≡ n) (c ∷ cs) ⊎ Each (λ c. c.0 ≢ n) (c ∷ cs)
  later (inl a) ne = inl (suc a.0, a.1, (let lt = a.2 in omega (arith, lt)), a.3, a.4)
  later (inr f) ne = inr (ne, f)

first_call : (b : Bool) → b ≡ true → (x : ℕ × Call) (ys : History) → map (λ (z : ℕ × Call). z.1) (cond b (x ∷ ys) ys) ≡ [] → ⊥
first_call true r x ys e = absurd cc
first_call false r x ys e = absurd cc

other_calls : (b : Bool) (x : ℕ × Call) (ys : History) → map (λ (z : ℕ × Call). z.1) (cond b (x ∷ ys) ys) ≡ [] → map (λ (z : ℕ × Call). z.1) ys ≡ []
other_calls true x ys e = absurd cc
other_calls false x ys e = e

stands_there : (history : History) (k : ℕ) (d : ℕ × Call) → k < length history → calls_by (get_or history k d).0 history ≡ [] → ⊥
stands_there [] k d lt e = absurd (omega (arith, lt))
stands_there (x ∷ xs) zero d lt e = first_call (x.0 == x.0) (eq-eqb x.0 x.0 refl) x (filter (λ z. z.0 == x.0) xs) e
stands_there (x ∷ xs) (suc k) d lt e =
    stands_there xs k d (omega (arith, lt)) (other_calls (x.0 == (get_or xs k d).0) x (filter (λ z. z.0 == (get_or xs k d).0) xs) e)

some_same : (x y : Ended Call Made) → some x ≡ some y → x ≡ y
some_same x y e = cc

none_ended : (n : ℕ) (es : List (Ended Call Made)) → Each (λ (c : ℕ × List Placed). c.0 ≢ n) (others_of es) → (i : ℕ) (e : Ended Call Made) → get_elem? es i ≡ some e → e.number ≢ n
none_ended n [] h i e p = absurd cc
none_ended n (x ∷ es) h zero e p = λ same. h.0 (ap (λ (y : Ended Call Made). y.number) (some_same x e p) ∙ same)
none_ended n (x ∷ es) h (suc i) e p = none_ended n es h.1 i e p

module _ (opening : Opening) (history : History) (faults : ℕ) (v : Known) (h : HasClosed opening history faults v) where
  owned : (n : ℕ) → (calls_by n history ≡ [] → ⊥) → Any (λ c. c.0 ≡ n) (callers_of v)
  owned n there = by (find n (callers_of v)) where
    by : Any (λ c. c.0 ≡ n) (callers_of v) ⊎ Each (λ c. c.0 ≢ n) (callers_of v) → Any (λ c. c.0 ≡ n) (callers_of v)
    by (inl a) = a
    by (inr f) = absurd (there (h.others n f.0 (λ x. none_ended n v.ended f.1 x.0 x.1 x.2 x.3)))

  pub are_callers : AreCallers opening.doc history (callers_of v)
  are_callers = record {
    distinct = distinct_all v.number (answered (attempts v.made)) v.ended h.not_own h.apart;
    stand = All-from_recursion (λ (c : ℕ × List Placed). Stands opening.doc history c.0 c.1) (callers_of v)
        (h.tried.stands, others_stand opening.doc history v.ended (λ i e at. (h.ended i e at).0.stands));
    whole = λ k d lt. owned (get_or history k d).0 (stands_there history k d lt);
  }

pub all-are-one-thread : AllAreOneThread
all-are-one-thread opening history faults v h = one-thread opening.doc history (callers_of v) h.moves (are_callers opening history faults v h)
