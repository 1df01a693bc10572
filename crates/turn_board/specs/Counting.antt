-- What a call does to the counter of the tests, and what their threads carry.
use Rattle.std.specs.Prelude.{◌≡◌, ◌≤◌, ℕ, Bool, ◌&&◌, List, [], ◌∷◌, ◌++◌, if◌then◌else◌, Option, Some}
use Rattle.turn_board.specs.declared.kept.Last.{Last}
use Rattle.turn_board.specs.declared.board.Board.{Board}
use Rattle.turn_board.specs.declared.seat.SeatOf.{SeatOf as Seat}
use Rattle.turn_board.specs.Seats.{view, IsSeatOf, IsIdle}

-- A call of this caller was made, and its answer is the number of failures so far. It stands in the changes where it was answered and moved
abbrev pub HasCalled : ℕ → ℕ → List (ℕ × ℕ) → List (ℕ × ℕ) → ℕ → Option (Last ℕ ℕ) → Type 0
HasCalled caller by old new failures last = (answered : Bool) × (moved : Bool)
    × (last ≡ Some (record { caller = caller; call = by; answer = failures; answered = answered; moved = moved }))
    × (new ≡ old ++ (if answered && moved then (caller, by) ∷ [] else []))

module _ {S C A R : Type 0} where
  abbrev pub IsFree : Board S C A R → Seat S C A R → Type 0
  IsFree board seat = IsSeatOf board seat × IsIdle seat

  abbrev pub IsReady : ℕ → Board S C A R → Seat S C A R → Type 0
  IsReady turns board seat = IsFree board seat × (turns ≤ (view seat).turns)
