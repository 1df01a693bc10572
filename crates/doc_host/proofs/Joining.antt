-- The seats of two passes that are joined, one after another.
use Rattle.std.proofs.Common.{◌≡◌, ℕ, zero, suc, ◌+◌, ◌-◌, ◌<◌, ◌≤◌, nat_lt, nat_le, if◌then◌else◌, Bool, true, false, List, [], ◌∷◌, ◌++◌, length, slice_get, get_or, set, take, drop, map, refl, sym, ap, ◌∙◌, subst, arith, add-one, ⊎_elim, inl, inr}
use Rattle.std.specs.Prelude.{Option, Some, ◌⊎◌}
use mathlib.Core.Option.{some}
use mathlib.Core.List.{IsPrefix}
use lib.ListN.{get_elem?}
use Rattle.std.proofs.lemmas.List.{map-append}
use Rattle.turn_board.specs.declared.view.View.{View}
use Rattle.turn_board.specs.declared.view.Ended.{Ended}
use Rattle.turn_board.specs.declared.view.Made.{Made as Kept}
use Rattle.turn_board.specs.Rule.{both_of, ended_of, longer_of, shorter_of, free_of}
use Rattle.turn_board.proofs.Fronts.{prefix_self}
use Rattle.doc_model.specs.declared.call.Call.{Call}
use Rattle.doc_model.specs.declared.made.Made.{Made}
use Rattle.doc_model.specs.rules.Histories.{History}
use Rattle.doc_host.specs.declared.journaled.Opening.{Opening}
use Rattle.doc_host.specs.Seats.{Known, Knows, TriedBeyond}
use Rattle.doc_host.specs.Passes.{numbers_of, AreAlike, AllKnow, joined}
use Rattle.doc_host.proofs.Beyond.{beyond_more}
use Rattle.doc_host.proofs.Lists.{one_there}

abbrev pub AreOneStory : Known → Known → Type 0
AreOneStory v w = IsPrefix (shorter_of v.seen w.seen) (longer_of v.seen w.seen)

both_begin : (b : Bool) (xs ys : History) → IsPrefix (if b then ys else xs) (if b then xs else ys) → IsPrefix xs (if b then xs else ys) × IsPrefix ys (if b then xs else ys)
both_begin true xs ys p = (prefix_self xs, p)
both_begin false xs ys p = (p, prefix_self ys)

pub in_two : {A : Type 0} (xs ys : List A) (i : ℕ) (e : A) → get_elem? (xs ++ ys) i ≡ some e → ((j : ℕ) × (get_elem? xs j ≡ some e)) ⊎ ((j : ℕ) × (get_elem? ys j ≡ some e))
in_two [] ys i e at = inr (i, at)
in_two (x ∷ xs) ys zero e at = inl (0, at)
in_two (x ∷ xs) ys (suc i) e at = ⊎_elim (λ h. inl (suc h.0, h.1)) (λ h. inr h) (in_two xs ys i e at)

some_alike : {A : Type 0} (x y : A) → Some x ≡ Some y → x ≡ y
some_alike x y e = cc

only_one : {A : Type 0} (x e : A) (i : ℕ) → get_elem? (x ∷ []) i ≡ some e → x ≡ e
only_one x e zero at = cc
only_one x e (suc i) at = absurd cc

pub both_knows : (v w : Known) → Knows v → Knows w → v.root ≡ w.root → AreOneStory v w → Knows (both_of v w)
both_knows v w k m same p =
    let o : k.opening ≡ m.opening = some_alike k.opening m.opening (sym k.rooted ∙ same ∙ m.rooted) in
    let pre = both_begin (nat_le (length w.seen) (length v.seen)) v.seen w.seen p in
    let long = longer_of v.seen w.seen in
    let mine = λ (n : ℕ) (made : List (Kept Call Made)) (t : TriedBeyond k.opening v.seen n made). beyond_more k.opening v.seen long n made pre.0 t in
    let theirs = λ (n : ℕ) (made : List (Kept Call Made)) (t : TriedBeyond m.opening w.seen n made). beyond_more k.opening w.seen long n made pre.1 (subst (λ (q : Opening). TriedBeyond q w.seen n made) (sym o) t) in
    record {
      opening = k.opening;
      rooted = k.rooted;
      own = mine v.number v.made k.own;
      ended = λ i e at. ⊎_elim
          (λ h. ⊎_elim
          (λ a. mine e.number e.made (k.ended a.0 e a.1))
          (λ a. subst (λ (d : Ended Call Made). TriedBeyond k.opening long d.number d.made) (only_one (ended_of w) e a.0 a.1) (theirs w.number w.made m.own))
          (in_two v.ended (ended_of w ∷ []) h.0 e h.1))
          (λ h. theirs e.number e.made (m.ended h.0 e h.1))
          (in_two (v.ended ++ ended_of w ∷ []) w.ended i e at);
    }

abbrev Numbers : Type 0
Numbers = ℕ × ℕ × ℕ × ℕ × List ℕ

abbrev both_numbers : Numbers → Numbers → Numbers
both_numbers m n = (m.0, m.1, (if nat_lt m.2 m.3 then m.2 else n.2), (if nat_lt m.2 m.3 then m.3 + (n.3 - n.2) else n.3), (m.4 ++ n.1 ∷ []) ++ n.4)

both_numbers_of : (v w : Known) → numbers_of (both_of v w) ≡ both_numbers (numbers_of v) (numbers_of w)
both_numbers_of v w =
    let f = λ (e : Ended Call Made). e.number in
    ap (λ (l : List ℕ). (v.seats, v.number, (if nat_lt v.next v.end then v.next else w.next), (if nat_lt v.next v.end then v.end + free_of w else w.end), l))
    (map-append f (v.ended ++ ended_of w ∷ []) w.ended ∙ ap (λ l. l ++ map f w.ended) (map-append f v.ended (ended_of w ∷ [])))

pub joined_none : (vs : List Known) → joined vs [] ≡ vs
joined_none [] = refl
joined_none (v ∷ vs) = refl

pub joined_get : (n : ℕ) (vs ws : List Known) → slice_get (joined vs (take n ws)) n ≡ slice_get vs n
joined_get zero [] ws = refl
joined_get zero (v ∷ vs) ws = refl
joined_get (suc n) [] ws = refl
joined_get (suc n) (v ∷ vs) [] = refl
joined_get (suc n) (v ∷ vs) (w ∷ ws) = joined_get n vs ws

pub joined_next : (n : ℕ) (vs ws : List Known) (v w : Known) → slice_get vs n ≡ Some v → slice_get ws n ≡ Some w → set (joined vs (take n ws)) n (both_of v w) ≡ joined vs (take (suc n) ws)
joined_next zero [] ws v w a b = absurd cc
joined_next zero (x ∷ xs) [] v w a b = absurd cc
joined_next zero (x ∷ xs) (y ∷ ys) v w a b =
    ap (λ (z : Known). both_of z w ∷ xs) (sym (one_there x v a)) ∙ ap (λ (z : Known). both_of x z ∷ xs) (sym (one_there y w b)) ∙ ap (λ (l : List Known). both_of x y ∷ l) (sym (joined_none xs))
joined_next (suc n) [] ws v w a b = absurd cc
joined_next (suc n) (x ∷ xs) [] v w a b = absurd cc
joined_next (suc n) (x ∷ xs) (y ∷ ys) v w a b = ap (λ (l : List Known). both_of x y ∷ l) (joined_next n xs ys v w a b)

pub joined_got : (k : ℕ) (vs ws : List Known) (u : Known) → length vs ≡ length ws → slice_get (joined vs ws) k ≡ Some u → (v : Known) × (w : Known) × (slice_get vs k ≡ Some v) × (slice_get ws k ≡ Some w) × (both_of v w ≡ u)
joined_got k [] ws u l e = absurd cc
joined_got k (v ∷ vs) [] u l e = absurd (omega (arith, l))
joined_got zero (v ∷ vs) (w ∷ ws) u l e = (v, w, refl, refl, one_there (both_of v w) u e)
joined_got (suc k) (v ∷ vs) (w ∷ ws) u l e = joined_got k vs ws u (omega (arith, l)) e

pub joined_roots : (vs ws : List Known) → map (λ (v : Known). v.root) (joined vs ws) ≡ map (λ (v : Known). v.root) vs
joined_roots [] ws = refl
joined_roots (v ∷ vs) [] = refl
joined_roots (v ∷ vs) (w ∷ ws) = ap (λ l. v.root ∷ l) (joined_roots vs ws)

module _ (vs ws : List Known) (len : length vs ≡ length ws) where
  pub joined_knows : AllKnow vs → AllKnow ws → ((k : ℕ) (v w : Known) → slice_get vs k ≡ Some v → slice_get ws k ≡ Some w → (v.root ≡ w.root) × AreOneStory v w) → AllKnow (joined vs ws)
  joined_knows all also one k u e =
      let x = joined_got k vs ws u len e in
      let p = one k x.0 x.1 x.2 x.3 in
      subst Knows x.4 (both_knows x.0 x.1 (all k x.0 x.2) (also k x.1 x.3) p.0 p.1)

  pub joined_alike : AreAlike vs → AreAlike ws → AreAlike (joined vs ws)
  joined_alike all also i j u t a b =
      let x = joined_got i vs ws u len a in
      let y = joined_got j vs ws t len b in
      ap numbers_of (sym x.4) ∙ both_numbers_of x.0 x.1 ∙ ap (λ (m : Numbers). both_numbers m (numbers_of x.1)) (all i j x.0 y.0 x.2 y.2) ∙ ap (both_numbers (numbers_of y.0)) (also i j x.1 y.1 x.3 y.3)
      ∙ sym (both_numbers_of y.0 y.1) ∙ ap numbers_of y.4
