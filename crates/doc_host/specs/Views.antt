-- What callers see of a pass.
use Rattle.std.specs.Prelude.{◌≡◌, List, length, map, Option, Some}
use Rattle.turn_board.specs.declared.board.Board.{Board}
use Rattle.turn_board.specs.declared.seat.SeatOf.{SeatOf}
use Rattle.turn_board.specs.Seats.{view, root_of, IsSeatOf, IsIdle}
use Rattle.doc_host.specs.declared.journaled.Journaled.{Ghosts}
use Rattle.doc_host.specs.declared.journaled.Opening.{Opening}
use Rattle.doc_host.specs.declared.host.Host.{Host}
use Rattle.doc_host.specs.declared.pass.Pass.{Pass}
use Rattle.doc_host.specs.declared.shared.Shared.{Shared}
use Rattle.doc_host.specs.Seats.{Known}
use Rattle.doc_host.specs.Passes.{Each2, AreAlike, AllKnow}

-- a seat of this board, with no turn in hand
abbrev pub IsFreeSeat : {S C A R : Type 0} → Board S C A R → SeatOf S C A R → Type 0
IsFreeSeat board seat = IsSeatOf board seat × IsIdle seat

module _ {J : Type 0} {g : Ghosts J} where
  -- what the pass knows at each document
  abbrev pub views : Pass J g → List Known
  views pass = map view pass.seats.items

  -- what the documents were when the host was made
  abbrev pub openings : Host J g → List Opening
  openings host = map (root_of (λ (s : Shared J g). g.opening s.doc)) host.boards.items

  -- A pass of this host: a seat at each board, with no turn in hand, all with the same numbers. All that was made with it is known to
  -- have been tried on the document that was opened
  pub record IsPassOf (host : Host J g) (pass : Pass J g) : Type 0 where
    pub lengths : length pass.seats.items ≡ length host.boards.items
    pub seats : Each2 IsFreeSeat host.boards.items pass.seats.items
    pub rooted : map (λ v. v.root) (views pass) ≡ map (λ o. Some o) (openings host)
    pub knows : AllKnow (views pass)
    pub alike : AreAlike (views pass)
