-- What was tried in a history is tried however the history goes on.
use Rattle.std.proofs.Common.{◌≡◌, ℕ, Bool, true, false, List, [], ◌∷◌, ◌++◌, refl, sym, ap, ◌∙◌, subst}
use mathlib.Core.List.{IsPrefix}
use Rattle.std.proofs.lemmas.List.{map-append, append-nil, append_cancel_left}
use Rattle.turn_board.specs.declared.view.Made.{Made as Kept}
use Rattle.turn_board.specs.Calls.{calls_by, moved_calls}
use Rattle.turn_board.proofs.Calls.{calls_by-append, calls_same, moved-append}
use Rattle.turn_board.proofs.Fronts.{prefix_trans}
use Rattle.doc_model.specs.declared.call.Call.{Call}
use Rattle.doc_model.specs.declared.made.Made.{Made}
use Rattle.doc_model.specs.declared.reply.Submitted.{Submitted}
use Rattle.doc_model.specs.declared.reply.Submitted.TheVariants.{Answered, DiskFault, JournalFull, NoMemory}
use Rattle.doc_model.specs.rules.Histories.{History, Tried, is_answered}
use Rattle.doc_model.specs.laws.Histories.{gained, Became}
use Rattle.doc_model.proofs.Attempts.{tried-nothing, tried-later, tried-with-next}
use Rattle.doc_host.specs.declared.journaled.Opening.{Opening}
use Rattle.doc_host.specs.Submits.{effect_after}
use Rattle.doc_host.specs.Attempts.{has_changed, attempt, attempts}
use Rattle.doc_host.specs.Seats.{TriedBeyond, call_made, history_after}

-- who made no call has tried nothing
pub beyond_none : (o : Opening) (seen : History) (n : ℕ) → TriedBeyond o seen n []
beyond_none o seen n history pre calls = tried-nothing o.doc o.bodies history n calls

-- the more was seen, the less is said
pub beyond_more : (o : Opening) (seen more : History) (n : ℕ) (made : List (Kept Call Made)) → IsPrefix seen more → TriedBeyond o seen n made → TriedBeyond o more n made
beyond_more o seen more n made pre t history pre' calls = t history (prefix_trans seen more history pre pre') calls

-- where nothing under the number comes behind it
pub beyond_tried : (o : Opening) (seen : History) (n : ℕ) (made : List (Kept Call Made)) → Tried o.doc o.bodies seen n (attempts made) → calls_by n seen ≡ moved_calls made → TriedBeyond o seen n made
beyond_tried o seen n made t own history pre calls =
    let both : calls_by n seen ++ calls_by n pre.0 ≡ calls_by n seen ++ [] = sym (calls_by-append n seen pre.0) ∙ ap (calls_by n) pre.1 ∙ calls ∙ sym own ∙ sym (append-nil (calls_by n seen)) in
    subst (λ (h : History). Tried o.doc o.bodies h n (attempts made)) pre.1
    (tried-later o.doc o.bodies seen pre.0 n (attempts made) t (append_cancel_left (calls_by n seen) (calls_by n pre.0) [] both))

-- what a call adds to a history is what stands under its number among the calls made
gains_by : (b : Bool) (n : ℕ) (call : Call) (submitted : Submitted) (at : ℕ) (answer : Made) → calls_by n (gained n call submitted b) ≡ moved_calls (record { at = at; call = call; answer = answer; answered = is_answered submitted; moved = has_changed submitted b } ∷ [])
gains_by true n call (Answered reply) at answer = calls_same n (call ∷ [])
gains_by false n call (Answered reply) at answer = refl
gains_by b n call DiskFault at answer = refl
gains_by b n call JournalFull at answer = refl
gains_by b n call NoMemory at answer = refl

module _ (o : Opening) (taken : History) (n : ℕ) (call : Call) (submitted : Submitted) (before after : ℕ) where
  pub next_calls : (made : List (Kept Call Made)) → calls_by n taken ≡ moved_calls made
      → calls_by n (history_after o taken n call submitted) ≡ moved_calls (made ++ call_made o taken call submitted before after ∷ [])
  next_calls made own =
      let item = call_made o taken call submitted before after in
      let b = (effect_after o taken call).moved in
      calls_by-append n taken (gained n call submitted b)
      ∙ ap (λ (l : List Call). l ++ calls_by n (gained n call submitted b)) own
      ∙ ap (λ (l : List Call). moved_calls made ++ l) (gains_by b n call submitted item.at item.answer)
      ∙ sym (moved-append made (item ∷ []))

  pub next_tried : (made : List (Kept Call Made)) → Tried o.doc o.bodies taken n (attempts made) → Became (effect_after o taken call) o.bodies (attempt (call_made o taken call submitted before after)) submitted
      → Tried o.doc o.bodies (history_after o taken n call submitted) n (attempts (made ++ call_made o taken call submitted before after ∷ []))
  next_tried made t became =
      let item = call_made o taken call submitted before after in
      subst (Tried o.doc o.bodies (history_after o taken n call submitted) n) (sym (map-append attempt made (item ∷ [])))
      (tried-with-next o.doc o.bodies taken n (attempts made) (attempt item) t refl became)
