-- What a seat at a document knows, and what a call made in its turn does to that.
use Rattle.std.specs.Prelude.{◌≡◌, ℕ, ◌+◌, ◌-◌, ◌<◌, ◌≤◌, Bool, List, [], ◌∷◌, ◌++◌, length, Option, Some}
use mathlib.Core.Option.{some}
use mathlib.Core.List.{IsPrefix}
use lib.ListN.{get_elem?}
use Rattle.turn_board.specs.declared.view.View.{View}
use Rattle.turn_board.specs.declared.view.Ended.{Ended}
use Rattle.turn_board.specs.declared.view.Hand.TheVariants.{Idle}
use Rattle.turn_board.specs.declared.view.Made.{Made as Kept}
use Rattle.turn_board.specs.Calls.{calls_by, moved_calls}
use Rattle.turn_board.specs.Seats.{IsWhole}
use Rattle.doc_model.specs.declared.call.Call.{Call}
use Rattle.doc_model.specs.declared.made.Made.{Made}
use Rattle.doc_model.specs.declared.reply.Submitted.{Submitted}
use Rattle.doc_model.specs.rules.Histories.{History, Tried, Fits, is_answered}
use Rattle.doc_model.specs.laws.Histories.{gained}
use Rattle.doc_model.specs.rules.Sound.{Sound}
use Rattle.doc_host.specs.declared.journaled.Opening.{Opening}
use Rattle.doc_host.specs.Submits.{effect_after, HasRoom}
use Rattle.doc_host.specs.Attempts.{has_changed, attempts}

-- what a seat at a document knows
abbrev pub Known : Type 0
Known = View Call Made Opening

-- However the history goes on from what was seen: where under this number it has just the moved ones of these calls, all of them
-- were tried in it
abbrev pub TriedBeyond : Opening → History → ℕ → List (Kept Call Made) → Type 0
TriedBeyond opening seen n made =
    (history : History) → IsPrefix seen history → calls_by n history ≡ moved_calls made → Tried opening.doc opening.bodies history n (attempts made)

-- What the seat made under its own number, and what was made under each number that it keeps as ended, was tried on the document
-- that was opened
pub record Knows (v : Known) : Type 0 where
  pub opening : Opening
  pub rooted : v.root ≡ Some opening
  pub own : TriedBeyond opening v.seen v.number v.made
  pub ended : (i : ℕ) (e : Ended Call Made) → get_elem? v.ended i ≡ some e → TriedBeyond opening v.seen e.number e.made

-- a call made after this history, as the seat keeps it
abbrev pub call_made : Opening → History → Call → Submitted → ℕ → ℕ → Kept Call Made
call_made opening taken call submitted before after = record {
  at = length taken;
  call = call;
  answer = record { submitted = submitted; before = before; after = after };
  answered = is_answered submitted;
  moved = has_changed submitted (effect_after opening taken call).moved;
}

-- the history after it
abbrev pub history_after : Opening → History → ℕ → Call → Submitted → History
history_after opening taken n call submitted = taken ++ gained n call submitted (effect_after opening taken call).moved

-- The seat, whose view was v, made this call in a turn and has so many turns left: its view is w. At the take the history went on
-- from all that it had seen. The call stands behind all that it made, with its place and the disk's counts of faults. What is seen
-- is the history at the leave, and the floor its length. Everything else that callers know of the seat is as it was. All that was
-- made under the number was tried in this history
pub record MakesWith (turns : ℕ) (call : Call) (submitted : Submitted) (v w : Known) : Type 0 where
  pub opening : Opening
  pub taken : History
  pub before : ℕ
  pub after : ℕ
  pub rooted : v.root ≡ Some opening
  pub seen : IsPrefix v.seen taken
  pub floor : v.floor ≤ length taken
  pub view_is : w ≡ record v {
    turns = turns;
    looked = w.looked;
    hand = Idle;
    taken = taken;
    tally = w.tally;
    given = w.given;
    made = v.made ++ call_made opening taken call submitted before after ∷ [];
    seen = history_after opening taken v.number call submitted;
    floor = length (history_after opening taken v.number call submitted);
  }
  pub tried : Tried opening.doc opening.bodies w.seen w.number (attempts w.made)
  pub room : HasRoom (effect_after opening taken call).moved (opening.bodies + length taken) submitted
  pub fits : Sound opening.doc → Fits call submitted

-- the same at the cost of one turn
abbrev pub HasMade : Call → Submitted → Known → Known → Type 0
HasMade call submitted v w = MakesWith (v.turns - 1) call submitted v w

-- The exchange found `ticket` where `serving` was read as the ticket that is served. Nothing that the seat knows of the document or
-- of its calls has changed, and it isn't whole
pub record FoundBusy (ticket serving : ℕ) (v w : Known) : Type 0 where
  pub apart : serving < ticket
  pub not_whole : IsWhole v → ⊥
  pub view_is : w ≡ record v { looked = serving; found = ticket; tries = v.tries + 1 }

-- The count of changes was read, which is at least the floor and becomes the floor. For a whole seat it is the length of the history
pub record ReadsFront (count : ℕ) (v w : Known) : Type 0 where
  pub floor : v.floor ≤ count
  pub view_is : w ≡ record v { floor = count }
  pub whole : IsWhole v → count ≡ length v.seen
