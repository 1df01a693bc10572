-- The first pass of a host, seat by seat.
use Rattle.std.proofs.Common.{◌≡◌, ℕ, zero, suc, ◌+◌, ◌<◌, ◌≤◌, List, [], ◌∷◌, ◌++◌, length, slice_get, get_or, map, refl, sym, ap, ◌∙◌, subst, arith, append_assoc, length-append}
use Rattle.std.specs.Prelude.{Option, Some}
use Rattle.std.specs.List.{remove}
use Rattle.std.proofs.lemmas.List.{map-append, append-nil}
use Rattle.turn_board.specs.declared.board.Board.{Board}
use Rattle.turn_board.specs.declared.seat.SeatOf.{SeatOf}
use Rattle.turn_board.specs.Rule.{first_view}
use Rattle.turn_board.specs.Seats.{view, root_of, IsSeatOf, IsFirst}
use Rattle.doc_model.specs.declared.call.Call.{Call}
use Rattle.doc_model.specs.declared.made.Made.{Made}
use Rattle.doc_model.specs.rules.Histories.{History}
use Rattle.doc_host.specs.declared.journaled.Journaled.{Ghosts}
use Rattle.doc_host.specs.declared.journaled.Opening.{Opening}
use Rattle.doc_host.specs.declared.host.Host.{Host}
use Rattle.doc_host.specs.declared.pass.Pass.{Pass}
use Rattle.doc_host.specs.declared.shared.Shared.{Shared}
use Rattle.doc_host.specs.Seats.{Known, Knows}
use Rattle.doc_host.specs.Passes.{Each2, numbers_of, AllKnow, AreAlike}
use Rattle.doc_host.specs.Views.{IsFreeSeat, IsPassOf, views, openings}
use Rattle.doc_host.proofs.Beyond.{beyond_none}
use Rattle.doc_host.proofs.Lists.{map_got}
use Rattle.doc_host.proofs.Pairs.{each2_push, each2_length}

abbrev pub at_first : {J : Type 0} → (J → Opening) → ℕ → J → Known
at_first opening seats d = first_view (opening d) seats

module _ {J : Type 0} (opening : J → Opening) (seats : ℕ) where
  first_root : (docs : List J) → map (λ (v : Known). v.root) (map (at_first opening seats) docs) ≡ map (λ o. Some o) (map opening docs)
  first_root [] = refl
  first_root (d ∷ ds) = ap (λ l. Some (opening d) ∷ l) (first_root ds)

  first_knows : (docs : List J) → AllKnow (map (at_first opening seats) docs)
  first_knows docs i v e =
      let x = map_got (at_first opening seats) docs i v e in
      subst Knows x.2 (record { opening = opening x.0; rooted = refl; own = beyond_none (opening x.0) [] 0; ended = λ j d at. absurd cc })

  first_alike : (docs : List J) → AreAlike (map (at_first opening seats) docs)
  first_alike docs i j v w a b =
      let x = map_got (at_first opening seats) docs i v a in
      let y = map_got (at_first opening seats) docs j w b in
      ap numbers_of (sym x.2) ∙ ap numbers_of y.2

module _ {J S : Type 0} (opening : J → Opening) (history : J → History) (root : S → Opening) (seats : ℕ) where
  pub record Beginning (docs left : List J) (boards : List (Board S Call Made Opening)) (chairs : List (SeatOf S Call Made Opening)) : Type 0 where
    pub free : Each2 IsFreeSeat boards chairs
    pub views : map view chairs ++ map (at_first opening seats) left ≡ map (at_first opening seats) docs
    pub roots : map (root_of root) boards ++ map opening left ≡ map opening docs
    pub fresh : (i : ℕ) (d : J) → slice_get left i ≡ Some d → history d ≡ []
    pub counts : length boards + length left ≡ length docs

  pub first_fresh : (docs left : List J) (boards : List (Board S Call Made Opening)) (chairs : List (SeatOf S Call Made Opening)) → Beginning docs left boards chairs → 0 < length left → (d : J) → d ≡ get_or left 0 d → history d ≡ []
  first_fresh docs [] boards chairs h lt d e = absurd (omega arith)
  first_fresh docs (x ∷ xs) boards chairs h lt d e = h.fresh 0 d (ap Some (sym e))

  pub begin_next : (docs left : List J) (boards : List (Board S Call Made Opening)) (chairs : List (SeatOf S Call Made Opening)) → Beginning docs left boards chairs → 0 < length left → (d : J) → d ≡ get_or left 0 d
      → (b : Board S Call Made Opening) (s : SeatOf S Call Made Opening) → IsSeatOf b s → (o : Opening) → o ≡ opening d → IsFirst o seats s → root_of root b ≡ o → Beginning docs (remove left 0) (boards ++ b ∷ []) (chairs ++ s ∷ [])
  begin_next docs [] boards chairs h lt d e b s of_b o is first rooted = absurd (omega arith)
  begin_next docs (x ∷ xs) boards chairs h lt d e b s of_b o is first rooted =
      let seen : view s ≡ at_first opening seats x = ap (λ m. m.0) first ∙ ap (λ (p : Opening). first_view p seats) (is ∙ ap opening e) in
      record {
        free = each2_push IsFreeSeat boards chairs b s h.free (of_b, (ap (λ m. m.0.hand) first, ap (λ m. m.1) first));
        views = ap (λ l. l ++ map (at_first opening seats) xs) (map-append view chairs (s ∷ []) ∙ ap (λ v. map view chairs ++ v ∷ []) seen)
            ∙ append_assoc (map view chairs) (at_first opening seats x ∷ []) (map (at_first opening seats) xs) ∙ h.views;
        roots = ap (λ l. l ++ map opening xs) (map-append (root_of root) boards (b ∷ []) ∙ ap (λ p. map (root_of root) boards ++ p ∷ []) (rooted ∙ is ∙ ap opening e))
            ∙ append_assoc (map (root_of root) boards) (opening x ∷ []) (map opening xs) ∙ h.roots;
        fresh = λ i d at. h.fresh (suc i) d at;
        counts = let c = h.counts in let l = length-append boards (b ∷ []) in omega arith;
      }

  pub begun : (docs left : List J) (boards : List (Board S Call Made Opening)) (chairs : List (SeatOf S Call Made Opening)) → Beginning docs left boards chairs → length left ≡ 0 → map view chairs ≡ map (at_first opening seats) docs
  begun docs [] boards chairs h e = sym (append-nil (map view chairs)) ∙ h.views
  begun docs (x ∷ xs) boards chairs h e = absurd (omega (arith, e))

  pub begun_roots : (docs left : List J) (boards : List (Board S Call Made Opening)) (chairs : List (SeatOf S Call Made Opening)) → Beginning docs left boards chairs → length left ≡ 0 → map (root_of root) boards ≡ map opening docs
  begun_roots docs [] boards chairs h e = sym (append-nil (map (root_of root) boards)) ∙ h.roots
  begun_roots docs (x ∷ xs) boards chairs h e = absurd (omega (arith, e))

module _ {J : Type 0} {g : Ghosts J} (seats : ℕ) (docs left : List J) (host : Host J g) (pass : Pass J g) (h : Beginning g.opening g.history (λ (s : Shared J g). g.opening s.doc) seats docs left host.boards.items pass.seats.items) (none : length left ≡ 0) where
  pub first_views : views pass ≡ map (at_first g.opening seats) docs
  first_views = begun g.opening g.history (λ (s : Shared J g). g.opening s.doc) seats docs left host.boards.items pass.seats.items h none

  pub first_openings : openings host ≡ map g.opening docs
  first_openings = begun_roots g.opening g.history (λ (s : Shared J g). g.opening s.doc) seats docs left host.boards.items pass.seats.items h none

  pub first_pass : IsPassOf host pass
  first_pass = record {
    lengths = each2_length IsFreeSeat host.boards.items pass.seats.items h.free;
    seats = h.free;
    rooted = ap (map (λ (v : Known). v.root)) first_views ∙ first_root g.opening seats docs ∙ ap (map (λ o. Some o)) (sym first_openings);
    knows = subst AllKnow (sym first_views) (first_knows g.opening seats docs);
    alike = subst AreAlike (sym first_views) (first_alike g.opening seats docs);
  }
