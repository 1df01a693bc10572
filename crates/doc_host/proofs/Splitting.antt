-- The seats of a pass that is cut in two, one after another.
use Rattle.std.proofs.Common.{◌≡◌, ℕ, suc, ◌+◌, ◌<◌, ◌≤◌, List, [], ◌∷◌, ◌++◌, length, slice_get, get_or, set, take, map, refl, sym, ap, ◌∙◌, subst, arith, add-one, length-append}
use Rattle.std.specs.Prelude.{Option, Some}
use Rattle.std.proofs.lemmas.Option.{slice_get_read}
use Rattle.std.proofs.lemmas.List.{length-set, map-append}
use Rattle.turn_board.specs.declared.board.Board.{Board}
use Rattle.turn_board.specs.declared.seat.SeatOf.{SeatOf}
use Rattle.turn_board.specs.Rule.{kept_part, given_part}
use Rattle.turn_board.specs.Seats.{view, me_of, IsSeatOf, IsIdle, IsSameSeat}
use Rattle.doc_model.specs.declared.call.Call.{Call}
use Rattle.doc_model.specs.declared.made.Made.{Made}
use Rattle.doc_host.specs.declared.journaled.Opening.{Opening}
use Rattle.doc_host.specs.Seats.{Known}
use Rattle.doc_host.specs.Passes.{Each2}
use Rattle.doc_host.specs.Views.{IsFreeSeat}
use Rattle.doc_host.proofs.Lists.{front_mapped, front_get, front_next, map_get, map_set, map_take_next, take_next}
use Rattle.doc_host.proofs.Pairs.{each2_at, each2_set, each2_push}

module _ {S : Type 0} where
  -- so many seats were split
  pub record Giving (boards : List (Board S Call Made Opening)) (vs : List Known) (n : ℕ) (now given : List (SeatOf S Call Made Opening)) : Type 0 where
    pub lengths : length now ≡ length boards
    pub own : Each2 IsFreeSeat boards now
    pub others : Each2 IsFreeSeat (take n boards) given
    pub views : map view now ≡ front_mapped kept_part n vs
    pub given_views : map view given ≡ map given_part (take n vs)
    pub count : length given ≡ n

  module _ (boards : List (Board S Call Made Opening)) (vs : List Known) (n : ℕ) (now given : List (SeatOf S Call Made Opening)) (h : Giving boards vs n now given) where
    pub giving_view : (s : SeatOf S Call Made Opening) → slice_get now n ≡ Some s → slice_get vs n ≡ Some (view s)
    giving_view s e = sym (front_get kept_part n vs) ∙ ap (λ l. slice_get l n) (sym h.views) ∙ map_get view now n s e

    pub giving_next : (b : Board S Call Made Opening) (s t u : SeatOf S Call Made Opening) → slice_get boards n ≡ Some b → slice_get now n ≡ Some s
        → IsSameSeat s t → me_of t ≡ (kept_part (view s), []) → IsSeatOf b u → me_of u ≡ (given_part (view s), [])
        → Giving boards vs (n + 1) (set now n t) (given ++ u ∷ [])
    giving_next b s t u at_b at_s same kept of_b new =
        let free = each2_at IsFreeSeat boards now n b s h.own at_b at_s in
        let at = giving_view s at_s in
        subst (λ m. Giving boards vs m (set now n t) (given ++ u ∷ [])) (sym (add-one n)) (record {
          lengths = length-set now n t ∙ h.lengths;
          own = each2_set IsFreeSeat boards now n b t h.own at_b (same.0 ∙ free.0, (ap (λ m. m.0.hand) kept ∙ free.1.0, ap (λ m. m.1) kept));
          others = subst (λ l. Each2 IsFreeSeat l (given ++ u ∷ [])) (take_next n boards b at_b) (each2_push IsFreeSeat (take n boards) given b u h.others (of_b, (ap (λ m. m.0.hand) new, ap (λ m. m.1) new)));
          views = map_set view now n t ∙ ap (λ l. set l n (view t)) h.views ∙ ap (λ m. set (front_mapped kept_part n vs) n m.0) kept ∙ front_next kept_part n vs (view s) at;
          given_views = map-append view given (u ∷ []) ∙ ap (λ l. l ++ view u ∷ []) h.given_views ∙ ap (λ m. map given_part (take n vs) ++ m.0 ∷ []) new ∙ map_take_next given_part n vs (view s) at;
          count = length-append given (u ∷ []) ∙ ap (λ m. m + 1) h.count ∙ add-one n;
        })

    pub giving_free : n < length boards → (b : Board S Call Made Opening) (s : SeatOf S Call Made Opening) → b ≡ get_or boards n b → s ≡ get_or now n s → IsFreeSeat b s × (slice_get boards n ≡ Some b) × (slice_get now n ≡ Some s)
    giving_free lt b s e d =
        let at_b = slice_get_read boards (length boards) n b refl lt e in
        let at_s = slice_get_read now (length now) n s refl (let l = h.lengths in omega arith) d in
        (each2_at IsFreeSeat boards now n b s h.own at_b at_s, at_b, at_s)
