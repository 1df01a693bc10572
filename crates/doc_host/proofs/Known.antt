-- What the views of a pass keep at each step.
use Rattle.std.proofs.Common.{◌≡◌, ◌≢◌, ℕ, zero, suc, ◌+◌, ◌-◌, ◌≤◌, nat_lt, if◌then◌else◌, List, [], ◌∷◌, ◌++◌, length, slice_get, set, map, refl, sym, ap, ◌∙◌, subst, arith}
use Rattle.std.specs.Prelude.{Option, Some, None}
use mathlib.Core.Logic.{dite}
use mathlib.Core.Option.{some}
use native.Mathlib.Decide.{ℕ_discrete}
use lib.ListN.{get_elem?}
use Rattle.std.proofs.lemmas.List.{map-append}
use Rattle.turn_board.specs.declared.view.View.{View}
use Rattle.turn_board.specs.declared.view.Ended.{Ended}
use Rattle.turn_board.specs.Rule.{free_of, kept_part, given_part, both_of, ended_of}
use Rattle.turn_board.specs.Seats.{IsWhole}
use Rattle.doc_model.specs.declared.call.Call.{Call}
use Rattle.doc_model.specs.declared.made.Made.{Made}
use Rattle.doc_model.specs.declared.reply.Submitted.{Submitted}
use Rattle.doc_host.specs.declared.journaled.Opening.{Opening}
use Rattle.doc_host.specs.Seats.{Known, Knows, HasMade, FoundBusy, ReadsFront}
use Rattle.doc_host.specs.Passes.{numbers_of, AreAlike, AllKnow, turns_at, free_in}
use Rattle.doc_host.proofs.Beyond.{beyond_none}
use Rattle.doc_host.proofs.Lists.{get_else, get_here, got, map_get, map_got, map_set, one_there}

-- the calls of a turn, and a look at the front, change neither numbers nor root
pub made_numbers : (v w : Known) (call : Call) (submitted : Submitted) → HasMade call submitted v w → (numbers_of w ≡ numbers_of v) × (w.root ≡ v.root)
made_numbers v w call submitted h = (ap numbers_of h.view_is, ap (λ (u : Known). u.root) h.view_is)

pub busy_numbers : (ticket serving : ℕ) (v w : Known) → FoundBusy ticket serving v w → (numbers_of w ≡ numbers_of v) × (w.root ≡ v.root)
busy_numbers ticket serving v w h = (ap numbers_of h.view_is, ap (λ (u : Known). u.root) h.view_is)

pub front_numbers : (count : ℕ) (v w : Known) → ReadsFront count v w → (numbers_of w ≡ numbers_of v) × (w.root ≡ v.root)
front_numbers count v w h = (ap numbers_of h.view_is, ap (λ (u : Known). u.root) h.view_is)

pub front_knows : (count : ℕ) (v w : Known) → ReadsFront count v w → Knows v → Knows w
front_knows count v w h k = subst Knows (sym h.view_is) (record { opening = k.opening; rooted = k.rooted; own = k.own; ended = k.ended })

module _ (vs : List Known) (doc : ℕ) (v w : Known) (at : slice_get vs doc ≡ Some v) where
  pub know_set : AllKnow vs → Knows w → AllKnow (set vs doc w)
  know_set all k i u e = dite (ℕ_discrete i doc)
      (λ same. subst Knows (get_here vs doc w u (subst (λ j. slice_get (set vs doc w) j ≡ Some u) same e)) k)
      (λ ne. all i u (sym (get_else vs doc i w ne) ∙ e))

  like_set : numbers_of w ≡ numbers_of v → (i : ℕ) (u : Known) → slice_get (set vs doc w) i ≡ Some u → (x : Known) × (slice_get vs i ≡ Some x) × (numbers_of u ≡ numbers_of x)
  like_set same i u e = dite (ℕ_discrete i doc)
      (λ here. (v, subst (λ j. slice_get vs j ≡ Some v) (sym here) at, ap numbers_of (sym (get_here vs doc w u (subst (λ j. slice_get (set vs doc w) j ≡ Some u) here e))) ∙ same))
      (λ ne. (u, sym (get_else vs doc i w ne) ∙ e, refl))

  pub alike_set : AreAlike vs → numbers_of w ≡ numbers_of v → AreAlike (set vs doc w)
  alike_set all same i j x y a b =
      let p = like_set same i x a in
      let q = like_set same j y b in
      p.2 ∙ all i j p.0 q.0 p.1 q.1 ∙ sym q.2

-- changing one item to what f doesn't tell apart
pub map_same : {X Y : Type 0} (f : X → Y) (l : List X) (i : ℕ) (x y : X) → slice_get l i ≡ Some x → f y ≡ f x → map f (set l i y) ≡ map f l
map_same f [] i x y e s = refl
map_same f (u ∷ us) zero x y e s = (let same : u ≡ x = one_there u x e in ap (λ a. a ∷ map f us) (s ∙ ap f (sym same)))
map_same f (u ∷ us) (suc i) x y e s = ap (λ l. f u ∷ l) (map_same f us i x y e s)

pub turns_here : (vs : List Known) (doc : ℕ) (v : Known) → slice_get vs doc ≡ Some v → turns_at vs doc ≡ v.turns
turns_here vs doc v e = got (map (λ (u : Known). u.turns) vs) doc v.turns 0 (map_get (λ (u : Known). u.turns) vs doc v e)

-- how views are told apart by their numbers alone
pub know_map : (f : Known → Known) (vs : List Known) → AllKnow vs → ((v : Known) → Knows v → Knows (f v)) → AllKnow (map f vs)
know_map f vs all k i u e = (let x = map_got f vs i u e in subst Knows x.2 (k x.0 (all i x.0 x.1)))

pub alike_map : (f : Known → Known) (φ : ℕ × ℕ × ℕ × ℕ × List ℕ → ℕ × ℕ × ℕ × ℕ × List ℕ) (vs : List Known) → AreAlike vs → ((v : Known) → numbers_of (f v) ≡ φ (numbers_of v)) → AreAlike (map f vs)
alike_map f φ vs all k i j u w a b =
    let x = map_got f vs i u a in
    let y = map_got f vs j w b in
    ap numbers_of (sym x.2) ∙ k x.0 ∙ ap φ (all i j x.0 y.0 x.1 y.1) ∙ sym (k y.0) ∙ ap numbers_of y.2

pub map_map_same : {X Y : Type 0} (r : X → Y) (f : X → X) (l : List X) → ((x : X) → r (f x) ≡ r x) → map r (map f l) ≡ map r l
map_map_same r f [] same = refl
map_map_same r f (x ∷ xs) same = ap (λ a. a ∷ map r (map f xs)) (same x) ∙ ap (λ l. r x ∷ l) (map_map_same r f xs same)

pub kept_knows : (v : Known) → Knows v → Knows (kept_part v)
kept_knows v k = record { opening = k.opening; rooted = k.rooted; own = k.own; ended = k.ended }

pub given_knows : (v : Known) → Knows v → Knows (given_part v)
given_knows v k = record { opening = k.opening; rooted = k.rooted; own = beyond_none k.opening v.seen v.next; ended = λ i e at. absurd cc }

pub kept_alike : (vs : List Known) → AreAlike vs → AreAlike (map kept_part vs)
kept_alike vs all = alike_map kept_part (λ n. (n.0, n.1, n.2 + 1, n.3, n.4)) vs all (λ v. refl)

pub given_alike : (vs : List Known) → AreAlike vs → AreAlike (map given_part vs)
given_alike vs all = alike_map given_part (λ n. (n.0, n.2, 0, 0, [])) vs all (λ v. refl)

-- where the first has a free number, each has
pub free_each : (vs : List Known) → AreAlike vs → 1 ≤ free_in vs → (i : ℕ) (v : Known) → slice_get vs i ≡ Some v → 1 ≤ free_of v
free_each [] all le i v e = absurd cc
free_each (u ∷ us) all le i v e = subst (λ (n : ℕ × ℕ × ℕ × ℕ × List ℕ). 1 ≤ n.3 - n.2) (all 0 i u v refl e) le
