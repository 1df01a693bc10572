-- What a turn, a call and a leave do together to what a seat knows.
use Rattle.std.proofs.Common.{◌≡◌, ℕ, ◌+◌, ◌≤◌, List, [], ◌∷◌, ◌++◌, length, refl, sym, ap, ◌∙◌, subst}
use Rattle.std.specs.Prelude.{Option, Some}
use mathlib.Core.Option.{some}
use mathlib.Core.List.{IsPrefix}
use lib.ListN.{get_elem?}
use Rattle.turn_board.specs.declared.view.View.{View}
use Rattle.turn_board.specs.declared.view.Ended.{Ended}
use Rattle.turn_board.specs.declared.view.Hand.{Hand}
use Rattle.turn_board.specs.declared.view.Hand.TheVariants.{Idle}
use Rattle.turn_board.specs.declared.view.Made.{Made as Kept}
use Rattle.turn_board.specs.Calls.{calls_by, moved_calls}
use Rattle.turn_board.specs.Seats.{after_leave}
use Rattle.turn_board.proofs.Fronts.{prefix_trans}
use Rattle.doc_model.specs.declared.call.Call.{Call}
use Rattle.doc_model.specs.declared.made.Made.{Made}
use Rattle.doc_model.specs.declared.reply.Submitted.{Submitted}
use Rattle.doc_model.specs.rules.Histories.{History, Tried}
use Rattle.doc_model.specs.laws.Histories.{gained, Became}
use Rattle.doc_host.specs.declared.journaled.Opening.{Opening}
use Rattle.turn_board.specs.declared.kept.Last.{Last}
use Rattle.doc_host.specs.Submits.{effect_after, HasRoom, HasSubmitted}
use Rattle.doc_host.specs.Attempts.{attempt, attempts}
use Rattle.doc_host.specs.Seats.{Known, Knows, TriedBeyond, call_made, history_after, MakesWith}
use Rattle.doc_host.proofs.Beyond.{beyond_more, beyond_tried, next_calls, next_tried}

-- a view that differs in nothing that `Knows` speaks of
abbrev pub beside : Known → ℕ → ℕ → ℕ → ℕ → Hand Call Made → History → ℕ → Known
beside v turns looked found tries hand taken tally = record v { turns = turns; looked = looked; found = found; tries = tries; hand = hand; taken = taken; tally = tally }

pub knows_beside : (v : Known) (turns looked found tries : ℕ) (hand : Hand Call Made) (taken : History) (tally : ℕ) → Knows v → Knows (beside v turns looked found tries hand taken tally)
knows_beside v turns looked found tries hand taken tally k = record { opening = k.opening; rooted = k.rooted; own = k.own; ended = k.ended }

some_same : {A : Type 0} (x y : A) → Some x ≡ Some y → x ≡ y
some_same x y e = cc

module _ (v : Known) (k : Knows v) (o : Opening) (rooted : v.root ≡ Some o) (pre : IsPrefix v.seen v.taken) (floor : v.floor ≤ length v.taken) (own : calls_by v.number v.taken ≡ moved_calls v.made)
    (old new : History) (last : Option (Last Call Made)) (before after : ℕ) (caller : ℕ) (call : Call) (submitted : Submitted) (h : HasSubmitted o old new last before after caller call submitted)
    (took : v.taken ≡ old) (who : caller ≡ v.number) (w : Known) (left : w ≡ after_leave new last after v) where
  same_opening : k.opening ≡ o
  same_opening = some_same k.opening o (sym k.rooted ∙ rooted)

  beyond : (n : ℕ) (made : List (Kept Call Made)) → TriedBeyond k.opening v.seen n made → TriedBeyond o v.seen n made
  beyond n made t = subst (λ (p : Opening). TriedBeyond p v.seen n made) same_opening t

  -- what it is after the leave
  abbrev made_view : Known
  made_view = record v {
    hand = Idle;
    given = after;
    made = v.made ++ call_made o v.taken call submitted before after ∷ [];
    seen = history_after o v.taken v.number call submitted;
    floor = length (history_after o v.taken v.number call submitted);
  }

  story_is : new ≡ history_after o v.taken v.number call submitted
  story_is =
      let P = λ (t : History). t ++ gained caller call submitted (effect_after o t call).moved in
      h.gains ∙ ap P (sym took) ∙ ap (λ (n : ℕ). v.taken ++ gained n call submitted (effect_after o v.taken call).moved) who

  left_is : w ≡ made_view
  left_is =
      let item = λ (t : History). call_made o t call submitted before after in
      left
      ∙ ap (λ (l : Option (Last Call Made)). after_leave new l after v) h.noted
      ∙ ap (λ (s : History). record v { hand = Idle; given = after; made = v.made ++ record { at = length v.taken; call = call; answer = record { submitted = submitted; before = before; after = after }; answered = (item old).answered; moved = (item old).moved } ∷ []; seen = s; floor = length s }) story_is
      ∙ ap (λ (t : History). record v { hand = Idle; given = after; made = v.made ++ record { at = length v.taken; call = call; answer = record { submitted = submitted; before = before; after = after }; answered = (item old).answered; moved = (item t).moved } ∷ []; seen = history_after o v.taken v.number call submitted; floor = length (history_after o v.taken v.number call submitted) }) (sym took)

  tried_before : Tried o.doc o.bodies v.taken v.number (attempts v.made)
  tried_before = beyond v.number v.made k.own v.taken pre own

  tried_then : Tried o.doc o.bodies made_view.seen made_view.number (attempts made_view.made)
  tried_then =
      next_tried o v.taken v.number call submitted before after v.made tried_before
      (subst (λ (t : History). Became (effect_after o t call) o.bodies (attempt (call_made o t call submitted before after)) submitted) (sym took) h.became)

  pub makes : MakesWith v.turns call submitted v w
  makes = record {
    opening = o;
    taken = v.taken;
    before = before;
    after = after;
    rooted = rooted;
    seen = pre;
    floor = floor;
    view_is = left_is ∙ ap (λ (u : Known). record made_view { looked = u.looked; tally = u.tally; given = u.given }) (sym left_is);
    tried = subst (λ (u : Known). Tried o.doc o.bodies u.seen u.number (attempts u.made)) (sym left_is) tried_then;
    fits = h.fits;
    room = subst (λ (t : History). HasRoom (effect_after o t call).moved (o.bodies + length t) submitted) (sym took) h.room;
  }

  pub knows_then : Knows w
  knows_then = subst Knows (sym left_is) (record {
    opening = o;
    rooted = rooted;
    own = beyond_tried o made_view.seen v.number made_view.made tried_then (next_calls o v.taken v.number call submitted before after v.made own);
    ended = λ i e at. beyond_more o v.seen made_view.seen e.number e.made (prefix_trans v.seen v.taken made_view.seen pre (gained v.number call submitted (effect_after o v.taken call).moved, refl)) (beyond e.number e.made (k.ended i e at));
  })
