-- All callers of a document whose host was closed, as one thread.
use Rattle.std.specs.Prelude.{ℕ, List, ◌∷◌, map}
use Rattle.turn_board.specs.declared.view.Made.{Made as Kept}
use Rattle.doc_model.specs.declared.call.Call.{Call}
use Rattle.doc_model.specs.declared.made.Made.{Made}
use Rattle.doc_model.specs.rules.Histories.{History, Placed, answered}
use Rattle.doc_model.specs.laws.Histories.{Ran, IsOneThread}
use Rattle.doc_host.specs.declared.journaled.Opening.{Opening}
use Rattle.doc_host.specs.Attempts.{attempts}
use Rattle.doc_host.specs.Seats.{Known}
use Rattle.doc_host.specs.Passes.{HasClosed}

-- who called under this number: the calls that were answered, in order
abbrev pub caller : ℕ → List (Kept Call Made) → ℕ × List Placed
caller n made = (n, answered (attempts made))

-- all callers: the whole pass under its own number, and those that were joined into it
abbrev pub callers_of : Known → List (ℕ × List Placed)
callers_of v = caller v.number v.made ∷ map (λ e. caller e.number e.made) v.ended

-- All answered calls of all callers of a document are one thread's run: each is answered as the document then says, the changes
-- are the history, and each caller's calls come in its order with the replies that it had
abbrev pub AllAreOneThread : Type 0
AllAreOneThread =
    (opening : Opening) (history : History) (faults : ℕ) (v : Known) → HasClosed opening history faults v
    → (run : List Ran) × IsOneThread opening.doc history (callers_of v) run
