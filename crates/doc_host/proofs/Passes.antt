-- A pass of a host, and what one step at one document makes of it.
use Rattle.std.proofs.Common.{◌≡◌, ℕ, ◌<◌, ◌≤◌, List, length, slice_get, get_or, set, map, refl, sym, ap, ◌∙◌, subst, arith}
use Rattle.std.specs.Prelude.{Option, Some}
use Rattle.std.proofs.lemmas.Option.{slice_get_read}
use Rattle.std.proofs.lemmas.List.{length-set}
use Rattle.turn_board.specs.declared.board.Board.{Board}
use Rattle.turn_board.specs.declared.seat.SeatOf.{SeatOf}
use Rattle.turn_board.specs.Seats.{view, IsIdle, IsSameSeat}
use Rattle.doc_model.specs.declared.call.Call.{Call}
use Rattle.doc_model.specs.declared.made.Made.{Made}
use Rattle.doc_host.specs.declared.journaled.Journaled.{Ghosts}
use Rattle.doc_host.specs.declared.journaled.Opening.{Opening}
use Rattle.doc_host.specs.declared.host.Host.{Host}
use Rattle.doc_host.specs.declared.pass.Pass.{Pass}
use Rattle.doc_host.specs.declared.shared.Shared.{Shared}
use Rattle.doc_host.specs.Seats.{Known, Knows}
use Rattle.doc_host.specs.Passes.{Each2, At, numbers_of, turns_at}
use Rattle.doc_host.specs.Views.{IsFreeSeat, IsPassOf, views}
use Rattle.doc_host.proofs.Known.{know_set, alike_set, map_same, turns_here}
use Rattle.doc_host.proofs.Lists.{map_get, map_set}
use Rattle.doc_host.proofs.Pairs.{each2_at, each2_set}

module _ {J : Type 0} {g : Ghosts J} (host : Host J g) (pass : Pass J g) (h : IsPassOf host pass) (doc : ℕ) (lt : doc < length host.boards.items) where
  abbrev pub BoardHere : Type 0
  BoardHere = Board (Shared J g) Call Made Opening

  abbrev pub SeatHere : Type 0
  SeatHere = SeatOf (Shared J g) Call Made Opening

  board_get : (b : BoardHere) → b ≡ get_or host.boards.items doc b → slice_get host.boards.items doc ≡ Some b
  board_get b e = slice_get_read host.boards.items (length host.boards.items) doc b refl lt e

  pub seat_get : (s : SeatHere) → s ≡ get_or pass.seats.items doc s → slice_get pass.seats.items doc ≡ Some s
  seat_get s e = slice_get_read pass.seats.items (length pass.seats.items) doc s refl (let l = h.lengths in omega arith) e

  pub view_get : (s : SeatHere) → s ≡ get_or pass.seats.items doc s → slice_get (views pass) doc ≡ Some (view s)
  view_get s e = map_get view pass.seats.items doc s (seat_get s e)

  pub seat_free : (b : BoardHere) (s : SeatHere) → b ≡ get_or host.boards.items doc b → s ≡ get_or pass.seats.items doc s → IsFreeSeat b s
  seat_free b s e d = each2_at IsFreeSeat host.boards.items pass.seats.items doc b s h.seats (board_get b e) (seat_get s d)

  pub seat_knows : (s : SeatHere) → s ≡ get_or pass.seats.items doc s → Knows (view s)
  seat_knows s e = h.knows doc (view s) (view_get s e)

  pub seat_turns : (s : SeatHere) → s ≡ get_or pass.seats.items doc s → 1 ≤ turns_at (views pass) doc → 1 ≤ (view s).turns
  seat_turns s e le = subst (λ n. 1 ≤ n) (turns_here (views pass) doc (view s) (view_get s e)) le

  module _ (b : BoardHere) (s t : SeatHere) (is_b : b ≡ get_or host.boards.items doc b) (is_s : s ≡ get_or pass.seats.items doc s) (pass' : Pass J g) (now : pass'.seats.items ≡ set pass.seats.items doc t) where
    pub views_then : views pass' ≡ set (views pass) doc (view t)
    views_then = ap (map view) now ∙ map_set view pass.seats.items doc t

    pub pass_then : IsSameSeat s t → IsIdle t → Knows (view t) → (numbers_of (view t) ≡ numbers_of (view s)) × ((view t).root ≡ (view s).root) → IsPassOf host pass'
    pass_then same idle knows numbers =
        let free = seat_free b s is_b is_s in record {
          lengths = ap length now ∙ length-set pass.seats.items doc t ∙ h.lengths;
          seats = subst (Each2 IsFreeSeat host.boards.items) (sym now) (each2_set IsFreeSeat host.boards.items pass.seats.items doc b t h.seats (board_get b is_b) (same.0 ∙ free.0, idle));
          rooted = ap (map (λ (v : Known). v.root)) views_then ∙ map_same (λ (v : Known). v.root) (views pass) doc (view s) (view t) (view_get s is_s) numbers.1 ∙ h.rooted;
          knows = subst (λ vs. (i : ℕ) (v : Known) → slice_get vs i ≡ Some v → Knows v) (sym views_then) (know_set (views pass) doc (view s) (view t) (view_get s is_s) h.knows knows);
          alike = subst (λ vs. (i j : ℕ) (v w : Known) → slice_get vs i ≡ Some v → slice_get vs j ≡ Some w → numbers_of v ≡ numbers_of w) (sym views_then) (alike_set (views pass) doc (view s) (view t) (view_get s is_s) h.alike numbers.0);
        }

    pub at_then : (step : Known → Known → Type 0) → step (view s) (view t) → At doc step (views pass) (views pass')
    at_then step p = (view s, view t, view_get s is_s, views_then, p)
