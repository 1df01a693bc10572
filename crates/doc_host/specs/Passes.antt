-- What passes know: the views of their seats, one for each document.
use Rattle.std.specs.Prelude.{◌≡◌, ◌≢◌, ℕ, ◌≤◌, List, [], ◌∷◌, length, map, slice_get, slice_index, slice_set, Option, Some}
use mathlib.Core.Option.{some}
use lib.ListN.{get_elem?}
use Rattle.turn_board.specs.declared.view.Ended.{Ended}
use Rattle.turn_board.specs.Rule.{free_of, both_of, AreApart}
use Rattle.turn_board.specs.Calls.{calls_by, moved_calls, MarksUpTo}
use Rattle.turn_board.specs.Seats.{IsWhole, HasEnded}
use Rattle.doc_model.specs.declared.call.Call.{Call}
use Rattle.doc_model.specs.declared.made.Made.{Made}
use Rattle.doc_model.specs.rules.Histories.{History, EachMoves, Tried}
use Rattle.doc_host.specs.declared.journaled.Opening.{Opening}
use Rattle.doc_host.specs.Attempts.{attempts}
use Rattle.doc_host.specs.Seats.{Known, Knows}

-- P of the items of two lists of one length, place by place
abbrev pub Each2 : {A B : Type 0} → (A → B → Type 0) → List A → List B → Type 0
Each2 P [] [] = Unit {0}
Each2 P (x ∷ xs) (y ∷ ys) = P x y × Each2 P xs ys
Each2 P [] (y ∷ ys) = ⊥
Each2 P (x ∷ xs) [] = ⊥

-- the numbers that a seat has
abbrev pub numbers_of : Known → ℕ × ℕ × ℕ × ℕ × List ℕ
numbers_of v = (v.seats, v.number, v.next, v.end, map (λ e. e.number) v.ended)

-- all views have the same numbers
abbrev pub AreAlike : List Known → Type 0
AreAlike views = (i j : ℕ) (v w : Known) → slice_get views i ≡ Some v → slice_get views j ≡ Some w → numbers_of v ≡ numbers_of w

abbrev pub AllKnow : List Known → Type 0
AllKnow views = (i : ℕ) (v : Known) → slice_get views i ≡ Some v → Knows v

-- the view at one document goes one step, and the others stay
abbrev pub At : ℕ → (Known → Known → Type 0) → List Known → List Known → Type 0
At doc step old new = (v : Known) × (w : Known) × (slice_get old doc ≡ Some v) × (new ≡ slice_set old doc w) × step v w

-- what a pass says of itself: the numbers are those of its seat at the first document
abbrev pub number_in : List Known → ℕ
number_in [] = 0
number_in (v ∷ vs) = v.number

abbrev pub free_in : List Known → ℕ
free_in [] = 0
free_in (v ∷ vs) = free_of v

abbrev pub whole_in : List Known → Type 0
whole_in [] = ⊥
whole_in (v ∷ vs) = IsWhole v

abbrev pub turns_at : List Known → ℕ → ℕ
turns_at views doc = slice_index (map (λ v. v.turns) views) doc

-- the views of a pass into which another was joined
abbrev pub joined : List Known → List Known → List Known
joined [] ws = []
joined (v ∷ vs) [] = v ∷ vs
joined (v ∷ vs) (w ∷ ws) = both_of v w ∷ joined vs ws

-- What a closed document is to the seat of the whole pass, whose view is v: its history is what the seat has seen, and each change
-- moved it where it stands. All that was made under each number that the pass has or keeps was tried in it, and nothing stands in it
-- under another number. These numbers differ. No count of faults at a call's end passes the disk's
pub record HasClosed (opening : Opening) (history : History) (faults : ℕ) (v : Known) : Type 0 where
  pub rooted : v.root ≡ Some opening
  pub seen : history ≡ v.seen
  pub moves : EachMoves opening.doc history
  pub floor : v.floor ≤ length history
  pub tried : Tried opening.doc opening.bodies history v.number (attempts v.made)
  pub own : calls_by v.number history ≡ moved_calls v.made
  pub marks : MarksUpTo (λ (m : Made). m.after) faults v.made
  pub ended : (i : ℕ) (e : Ended Call Made) → get_elem? v.ended i ≡ some e
      → Tried opening.doc opening.bodies history e.number (attempts e.made) × (calls_by e.number history ≡ moved_calls e.made) × MarksUpTo (λ (m : Made). m.after) faults e.made
  pub others : (n : ℕ) → v.number ≢ n → (HasEnded v n → ⊥) → calls_by n history ≡ []
  pub not_own : (i : ℕ) (e : Ended Call Made) → get_elem? v.ended i ≡ some e → v.number ≢ e.number
  pub apart : AreApart v.ended
