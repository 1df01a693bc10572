-- The calls that a seat made on a document, as a caller's attempts.
use Rattle.std.specs.Prelude.{ℕ, Bool, ◌&&◌, List, map}
use Rattle.turn_board.specs.declared.kept.Last.{Last}
use Rattle.turn_board.specs.declared.view.Made.{Made as Kept}
use Rattle.doc_model.specs.declared.call.Call.{Call}
use Rattle.doc_model.specs.declared.made.Made.{Made}
use Rattle.doc_model.specs.declared.reply.Submitted.{Submitted}
use Rattle.doc_model.specs.rules.Histories.{Attempt, is_answered}

-- whether a call changed the document that was to move it, or not
abbrev pub has_changed : Submitted → Bool → Bool
has_changed submitted moves = is_answered submitted && moves

-- a call as the one made last, as a board knows it
abbrev pub last_made : ℕ → Call → Made → Bool → Last Call Made
last_made caller call made moves = record {
  caller = caller;
  call = call;
  answer = made;
  answered = is_answered made.submitted;
  moved = has_changed made.submitted moves;
}

-- a call that a seat made
abbrev pub attempt : Kept Call Made → Attempt
attempt m = record { at = m.at; call = m.call; made = m.answer }

abbrev pub attempts : List (Kept Call Made) → List Attempt
attempts made = map attempt made
