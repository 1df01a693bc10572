-- The two passes of a split.
use Rattle.std.proofs.Common.{◌≡◌, ℕ, ◌≤◌, List, length, slice_get, take, map, refl, sym, ap, ◌∙◌, subst, arith}
use Rattle.std.specs.Prelude.{Option, Some}
use Rattle.std.proofs.lemmas.List.{length-map}
use Rattle.turn_board.specs.declared.seat.SeatOf.{SeatOf}
use Rattle.turn_board.specs.Rule.{kept_part, given_part}
use Rattle.turn_board.specs.Seats.{view}
use Rattle.doc_model.specs.declared.call.Call.{Call}
use Rattle.doc_model.specs.declared.made.Made.{Made}
use Rattle.doc_host.specs.declared.journaled.Journaled.{Ghosts}
use Rattle.doc_host.specs.declared.journaled.Opening.{Opening}
use Rattle.doc_host.specs.declared.host.Host.{Host}
use Rattle.doc_host.specs.declared.pass.Pass.{Pass}
use Rattle.doc_host.specs.declared.shared.Shared.{Shared}
use Rattle.doc_host.specs.Seats.{Known}
use Rattle.doc_host.specs.Passes.{Each2, AllKnow, AreAlike}
use Rattle.doc_host.specs.Views.{IsFreeSeat, IsPassOf, views}
use Rattle.doc_host.proofs.Known.{know_map, alike_map, map_map_same, kept_knows, given_knows, kept_alike, given_alike}
use Rattle.doc_host.proofs.Lists.{front_whole, take_whole}
use Rattle.doc_host.proofs.Splitting.{Giving}

module _ {J : Type 0} {g : Ghosts J} (host : Host J g) (pass : Pass J g) (h : IsPassOf host pass) (n : ℕ) (now given : List (SeatOf (Shared J g) Call Made Opening)) (k : Giving host.boards.items (views pass) n now given) (done : n ≡ length host.boards.items) where
  few : length (views pass) ≤ n
  few = (let l = h.lengths in let m : length (views pass) ≡ length pass.seats.items = simp length-map in omega arith)

  kept_views : map view now ≡ map kept_part (views pass)
  kept_views = k.views ∙ front_whole kept_part n (views pass) few

  given_views : map view given ≡ map given_part (views pass)
  given_views = k.given_views ∙ ap (map given_part) (take_whole n (views pass) few)

  pub kept_pass : (pass' : Pass J g) → pass'.seats.items ≡ now → IsPassOf host pass' × (views pass' ≡ map kept_part (views pass))
  kept_pass pass' is =
      let v : views pass' ≡ map kept_part (views pass) = ap (map view) is ∙ kept_views in (
        record {
          lengths = ap length is ∙ k.lengths;
          seats = subst (Each2 IsFreeSeat host.boards.items) (sym is) k.own;
          rooted = ap (map (λ (w : Known). w.root)) v ∙ map_map_same (λ (w : Known). w.root) kept_part (views pass) (λ w. refl) ∙ h.rooted;
          knows = subst AllKnow (sym v) (know_map kept_part (views pass) h.knows kept_knows);
          alike = subst AreAlike (sym v) (kept_alike (views pass) h.alike);
        },
        v,
      )

  pub given_pass : (pass' : Pass J g) → pass'.seats.items ≡ given → IsPassOf host pass' × (views pass' ≡ map given_part (views pass))
  given_pass pass' is =
      let v : views pass' ≡ map given_part (views pass) = ap (map view) is ∙ given_views in (
        record {
          lengths = ap length is ∙ k.count ∙ done;
          seats = subst (Each2 IsFreeSeat host.boards.items) (sym is) (subst (λ l. Each2 IsFreeSeat l given) (take_whole n host.boards.items (omega arith)) k.others);
          rooted = ap (map (λ (w : Known). w.root)) v ∙ map_map_same (λ (w : Known). w.root) given_part (views pass) (λ w. refl) ∙ h.rooted;
          knows = subst AllKnow (sym v) (know_map given_part (views pass) h.knows given_knows);
          alike = subst AreAlike (sym v) (given_alike (views pass) h.alike);
        },
        v,
      )
