-- The subrequests of a collection, one after the other.
use Rattle.std.proofs.Common.{◌≡◌, ℕ, ◌+◌, ◌-◌, ◌*◌, ◌<◌, ◌≤◌, zero, suc, List, [], ◌∷◌, ◌++◌, length, take, drop, get_or, Option, Some, None, refl, sym, ap, subst, ◌∙◌, arith}
use Rattle.std.specs.Prelude.{IfSome}
use Rattle.std.specs.List.{All}
use Rattle.std.proofs.lemmas.List.{length-append, length-drop, drop_more}
use Rattle.std.proofs.lemmas.List.Elements.{All-nil, All-cons, All-append}
use Rattle.compact_values.specs.declared.guid.Guid.{Guid}
use Rattle.doc_model.specs.rules.Histories.{Fits}
use Rattle.doc_model.specs.wire.Responses.{response}
use Rattle.doc_model.specs.declared.call.Call.{Call}
use Rattle.doc_model.specs.declared.call.Sub.{Sub}
use Rattle.doc_model.specs.declared.reply.Answer.{Answer}
use Rattle.doc_model.specs.declared.reply.Submitted.{Submitted}
use Rattle.doc_model.specs.declared.request.CellRequest.{CellRequest}
use Rattle.doc_model.specs.declared.request.WireSub.{WireSub}
use Rattle.envelope_read.specs.declared.collection.Ask.{Ask}
use Rattle.envelope_read.specs.declared.collection.SubAsk.{SubAsk}
use Rattle.envelope_read.specs.declared.collection.What.{What}
use Rattle.envelope_read.specs.declared.collection.What.TheVariants as asking
use Rattle.envelope_read.specs.declared.outcome.Outcome.{Outcome}
use Rattle.envelope_read.specs.declared.outcome.Outcome.TheVariants.{Cell, Plain}
use Rattle.envelope_read.specs.Callable.{subs_of}
use Rattle.wire_responses.specs.Forms.{HasForm}
use Rattle.dependency_runner.specs.Deciding.{decide, state_of}
use Rattle.dependency_runner.specs.declared.deciding.Decision.{Decision}
use Rattle.dependency_runner.specs.declared.deciding.Decision.TheVariants.{Run}
use Rattle.dependency_runner.specs.declared.state.Before.{Before}
use Rattle.dependency_runner.specs.declared.state.State.{State}
use Rattle.collection_run.specs.declared.cell.CellWork.{CellWork}
use Rattle.collection_run.specs.declared.beginning.Begun.TheVariants.{Ended, Opens}
use Rattle.collection_run.specs.declared.progress.Progress.{Progress}
use Rattle.collection_run.specs.Asking.{answer_to, word_of}
use Rattle.collection_run.specs.Collections.{Caller, doc_of, run_sub, cell_from, before, subs_from, asks_from}
use Rattle.collection_run.specs.Processes.{Process, Asks, after}
use Rattle.collection_run.specs.Progress.{GoesOnInCell, whole, IsNextInWhole, doc_at, cell_with, caller_of, finish, closed, in_cell, in_ask, at_asks, process_of, with_cell, IsAt, IsInCell, subs_behind, IsProgress, IsNextInAsk, IsNextAt, IsNext}
use Rattle.collection_run.specs.Proceeding.{IsPlain, BeginsAs, asks_left, subs_left, turns_at, turns_left, Closes, Proceeds, Settles}
use Rattle.collection_run.proofs.Cells.{cell_asks, cell_after}
use Rattle.collection_run.proofs.Forms.{fits_form}

abbrev rest_of : Progress → List Ask
rest_of p = drop (p.request + 1) p.collection.requests

abbrev later_of : Progress → Ask → List SubAsk
later_of p ask = drop (p.sub + 1) ask.subs

-- behind the present subrequest
abbrev behind : Progress → Ask → SubAsk → Outcome → Process
behind p ask sub outcome = closed p ask (rest_of p) sub (later_of p ask) outcome

-- ---- where it is

drop_within : {A : Type 0} (n : ℕ) (l : List A) (x : A) (r : List A) → drop n l ≡ x ∷ r → n < length l
drop_within n l x r e = omega (arith, length-drop n l, ap length e)

pub sub_below : (p : Progress) (ask : Ask) (sub : SubAsk) → IsAt p ask sub → p.sub < length ask.subs
sub_below p ask sub here = drop_within p.sub ask.subs sub (later_of p ask) here.sub_here

-- between subrequests
pub process_here : (p : Progress) (ask : Ask) (sub : SubAsk) → IsAt p ask sub → p.cell ≡ None
    → process_of p ≡ run_sub (caller_of p) (doc_of p.names ask.url) (decide sub.depend p.earlier) sub.what (behind p ask sub)
process_here p ask sub here none =
    ap (at_asks p) here.ask_here
    ∙ ap (in_ask p ask (rest_of p)) none
    ∙ ap (λ (l : List SubAsk). subs_from (caller_of p) (doc_of p.names ask.url) p.earlier p.outcomes l (λ outcomes. asks_from (caller_of p) outcomes (rest_of p) (finish p))) here.sub_here

-- in a Cell
abbrev at_cell : Progress → Ask → SubAsk → CellWork → Process
at_cell p ask sub cell =
    cell_with (caller_of p) cell.doc cell.carried cell.request cell.answers (λ answers. behind p ask sub (Cell (response answers) (word_of answers)))

process_cell : (p : Progress) (ask : Ask) (sub : SubAsk) (cell : CellWork) → IsAt p ask sub → p.cell ≡ Some cell → process_of p ≡ at_cell p ask sub (whole p.call cell)
process_cell p ask sub cell here is =
    ap (at_asks p) here.ask_here
    ∙ ap (in_ask p ask (rest_of p)) is
    ∙ ap (λ (l : List SubAsk). in_cell p ask (rest_of p) l (whole p.call cell)) here.sub_here

-- while this call is out, or none
process_with : (p : Progress) (ask : Ask) (sub : SubAsk) (cell : CellWork) (call : Option Call) → IsAt p ask sub → p.cell ≡ Some cell → p.call ≡ call
    → process_of p ≡ at_cell p ask sub (whole call cell)
process_with p ask sub cell call here is out = process_cell p ask sub cell here is ∙ ap (λ (o : Option Call). at_cell p ask sub (whole o cell)) out

-- ---- a subrequest ends

abbrev pub closing : Progress → SubAsk → Outcome → Progress
closing p sub outcome = record p { earlier = p.earlier ++ before sub outcome ∷ []; outcomes = p.outcomes ++ outcome ∷ []; sub = p.sub + 1 }

same_ask : (l : List Ask) (a b : Ask) (r s : List Ask) → l ≡ a ∷ r → l ≡ b ∷ s → a ≡ b
same_ask l a b r s e f = cc

counted_here : (p : Progress) (ask : Ask) (sub : SubAsk) → IsAt p ask sub → subs_behind p (drop p.request p.collection.requests) ≡ p.sub
counted_here p ask sub here = ap (subs_behind p) here.ask_here

pub closes : (p : Progress) (ask : Ask) (sub : SubAsk) (outcome : Outcome) → IsProgress p → p.cell ≡ None → p.call ≡ None → IsAt p ask sub → Closes p ask sub outcome (closing p sub outcome)
closes p ask sub outcome progress none no_call here =
    let q : Progress = closing p sub outcome in record {
      goes_on = ap (at_asks q) here.ask_here ∙ ap (in_ask q ask (rest_of p)) none;
      progress = record {
        within = progress.within;
        counted = omega (arith, length-append p.outcomes (outcome ∷ []), progress.counted, counted_here p ask sub here, ap (subs_behind q) here.ask_here);
        doc = progress.doc;
        sub_within = λ other asks e.
            subs_bound p ask sub here other (same_ask (drop p.request p.collection.requests) ask other (rest_of p) asks here.ask_here e);
        cell = subst (λ (c : Option CellWork). IfSome c (IsInCell q)) (sym none) tt;
      };
      none = none;
      no_call = no_call;
      left = ap (turns_at q) here.ask_here ∙ ap (λ (c : Option CellWork). 1 + (subs_left c (length ask.subs - (p.sub + 1)) + asks_left (rest_of p))) none;
    }
  where
    subs_bound : (p : Progress) (ask : Ask) (sub : SubAsk) → IsAt p ask sub → (other : Ask) → ask ≡ other → p.sub + 1 ≤ length other.subs
    subs_bound p ask sub here other e = subst (λ (a : Ask). p.sub + 1 ≤ length a.subs) e (omega (arith, sub_below p ask sub here))

-- with what was found of it
pub closes_with : (p : Progress) (ask : Ask) (sub : SubAsk) (outcome : Outcome) (earlier : List Before) (outcomes : List Outcome) (token : List ℕ) (state : State)
    → IsProgress p → p.cell ≡ None → p.call ≡ None → IsAt p ask sub → token ≡ sub.token → state ≡ state_of outcome
    → earlier ≡ p.earlier ++ record { token = token; state = state } ∷ [] → outcomes ≡ p.outcomes ++ outcome ∷ []
    → Closes p ask sub outcome (record p { earlier = earlier; outcomes = outcomes; sub = p.sub + 1 })
closes_with p ask sub outcome earlier outcomes token state progress none no_call here token_is state_is earlier_is outcomes_is =
    rw (earlier_is, outcomes_is, token_is, state_is) (closes p ask sub outcome progress none no_call here)

-- nothing that counts has changed, and no Cell is open
pub still_progress : (p q : Progress) → q.names ≡ p.names → q.request ≡ p.request → q.doc ≡ p.doc → q.collection ≡ p.collection → q.sub ≡ p.sub → q.outcomes ≡ p.outcomes → q.cell ≡ None
    → IsProgress p → IsProgress q
still_progress p q names request doc collection sub outcomes none progress = record {
  within = rw (request, collection) progress.within;
  counted = rw (request, collection, outcomes) (progress.counted ∙ ap (λ (n : ℕ). subs_of (take p.request p.collection.requests) + n) (same_behind p q (drop p.request p.collection.requests) sub));
  doc = rw (doc, names, request, collection) progress.doc;
  sub_within = rw (request, collection, sub) progress.sub_within;
  cell = subst (λ (c : Option CellWork). IfSome c (IsInCell q)) (sym none) tt;
}
  where
    same_behind : (p q : Progress) (l : List Ask) → q.sub ≡ p.sub → subs_behind p l ≡ subs_behind q l
    same_behind p q [] e = refl
    same_behind p q (a ∷ l) e = sym e

-- ---- places in lists

pub here_of : {A : Type 0} (l m : List A) (n : ℕ) (x : A) → l ≡ m → x ≡ get_or l n x → n < length m → drop n m ≡ x ∷ drop (n + 1) m
here_of {A} l m n x e is within =
    drop_more m n x within ∙ ap (λ (y : A). y ∷ drop (n + 1) m) (sym (is ∙ ap (λ (k : List A). get_or k n x) e))

pub indexed : {A : Type 0} (l m : List A) (n : ℕ) (x y : A) (r : List A) → l ≡ m → x ≡ get_or l n x → drop n m ≡ y ∷ r → x ≡ y
indexed l m n x y r e is here =
    let found = here_of l m n x e is (drop_within n m y r here) in cc

-- ---- the next Request

subs_of-take : (asks : List Ask) (n : ℕ) (ask : Ask) (rest : List Ask) → drop n asks ≡ ask ∷ rest → subs_of (take (suc n) asks) ≡ subs_of (take n asks) + length ask.subs
subs_of-take [] zero ask rest e = absurd cc
subs_of-take [] (suc n) ask rest e = absurd cc
subs_of-take (a ∷ asks) zero ask rest e =
    let same : a ≡ ask = cc in
    omega (arith, ap (λ (x : Ask). length x.subs) same)
subs_of-take (a ∷ asks) (suc n) ask rest e = omega (arith, subs_of-take asks n ask rest e)

abbrev pub moving : Progress → Progress
moving p = record p { request = p.request + 1; doc = doc_at p.names (drop (p.request + 1) p.collection.requests); sub = 0; earlier = take 0 p.earlier }

fresh : (p : Progress) (asks : List Ask) → p.cell ≡ None → at_asks (moving p) asks ≡ asks_from (caller_of p) p.outcomes asks (finish p)
fresh p [] none = refl
fresh p (ask ∷ asks) none = ap (in_ask (moving p) ask asks) none

fresh_left : (p : Progress) (asks : List Ask) → p.cell ≡ None → turns_at (moving p) asks ≡ asks_left asks
fresh_left p [] none = refl
fresh_left p (ask ∷ asks) none =
    ap (λ (cell : Option CellWork). 1 + (subs_left cell (length ask.subs - 0) + asks_left asks)) none
    ∙ ap (λ (n : ℕ). 1 + (2 * n + asks_left asks)) (nothing_off (length ask.subs))
  where
    nothing_off : (n : ℕ) → n - 0 ≡ n
    nothing_off n = omega arith

none_behind : (p : Progress) (asks : List Ask) → subs_behind (moving p) asks ≡ 0
none_behind p [] = refl
none_behind p (ask ∷ asks) = refl

add_up : (x a s l t z : ℕ) → x ≡ a + s → s ≤ l → l ≤ s → t ≡ a + l → z ≡ 0 → x ≡ t + z
add_up x a s l t z e f g h k = omega arith

subs_of-next : (asks : List Ask) (n : ℕ) (ask : Ask) (rest : List Ask) → drop n asks ≡ ask ∷ rest → subs_of (take (n + 1) asks) ≡ subs_of (take n asks) + length ask.subs
subs_of-next asks n ask rest e = ap (λ (m : ℕ). subs_of (take m asks)) (one_next n) ∙ subs_of-take asks n ask rest e
  where
    one_next : (n : ℕ) → n + 1 ≡ suc n
    one_next n = omega arith

moves_on : (p : Progress) (ask : Ask) → IsProgress p → drop p.request p.collection.requests ≡ ask ∷ rest_of p → p.cell ≡ None → p.call ≡ None → drop p.sub ask.subs ≡ [] → length ask.subs ≤ p.sub
    → Proceeds p (moving p) None
moves_on p ask progress ask_here none no_call empty over = record {
  same =
      fresh p (rest_of p) none
      ∙ sym (ap (at_asks p) ask_here
      ∙ ap (in_ask p ask (rest_of p)) none
      ∙ ap (λ (l : List SubAsk). subs_from (caller_of p) (doc_of p.names ask.url) p.earlier p.outcomes l (λ outcomes. asks_from (caller_of p) outcomes (rest_of p) (finish p))) empty);
  progress = record {
    within = omega (arith, drop_within p.request p.collection.requests ask (rest_of p) ask_here);
    counted = add_up (length p.outcomes) (subs_of (take p.request p.collection.requests)) p.sub (length ask.subs)
        (subs_of (take (p.request + 1) p.collection.requests)) (subs_behind (moving p) (rest_of p))
        (progress.counted ∙ ap (λ (n : ℕ). subs_of (take p.request p.collection.requests) + n) (ap (subs_behind p) ask_here))
        (progress.sub_within ask (rest_of p) ask_here) over (subs_of-next p.collection.requests p.request ask (rest_of p) ask_here) (none_behind p (rest_of p));
    doc = refl;
    sub_within = λ other asks e. omega arith;
    cell = subst (λ (c : Option CellWork). IfSome c (IsInCell (moving p))) (sym none) tt;
  };
  ends = (no_call, omega (arith, fresh_left p (rest_of p) none, ap (turns_at p) ask_here));
}

-- with what was found of the next Request
pub moves_with : (p : Progress) (ask : Ask) (doc : Option ℕ) (earlier : List Before) → IsProgress p → drop p.request p.collection.requests ≡ ask ∷ rest_of p → p.cell ≡ None → p.call ≡ None
    → drop p.sub ask.subs ≡ [] → length ask.subs ≤ p.sub → doc ≡ doc_at p.names (rest_of p) → earlier ≡ take 0 p.earlier
    → Proceeds p (record p { request = p.request + 1; doc = doc; sub = 0; earlier = earlier }) None
moves_with p ask doc earlier progress ask_here none no_call empty over doc_is earlier_is = rw (doc_is, earlier_is) (moves_on p ask progress ask_here none no_call empty over)

-- ---- a subrequest begins

left_here : (p : Progress) (ask : Ask) (sub : SubAsk) (cell : Option CellWork) → IsAt p ask sub → p.cell ≡ cell
    → turns_left p ≡ 1 + (subs_left cell (length ask.subs - p.sub) + asks_left (rest_of p))
left_here p ask sub cell here is = ap (turns_at p) here.ask_here ∙ ap (λ (c : Option CellWork). 1 + (subs_left c (length ask.subs - p.sub) + asks_left (rest_of p))) is

-- it ends at once
pub ends_at_once : (p q : Progress) (ask : Ask) (sub : SubAsk) (outcome : Outcome) → IsAt p ask sub → p.cell ≡ None
    → BeginsAs (caller_of p) (doc_of p.names ask.url) (decide sub.depend p.earlier) sub.what (Ended outcome) → Closes p ask sub outcome q → Proceeds p q None
ends_at_once p q ask sub outcome here none begins closes = record {
  same = closes.goes_on ∙ sym (process_here p ask sub here none ∙ begins (behind p ask sub));
  progress = closes.progress;
  ends = (closes.no_call, omega (arith, closes.left, left_here p ask sub None here none, sub_below p ask sub here));
}

plain_asks : (c : Caller) (doc : Option ℕ) (d : Decision) (what : What) (place : ℕ) (call : Call) (go_on : Outcome → Process) → IsPlain c doc d what place call
    → Asks (run_sub c doc d what go_on) place call
plain_asks c doc d what place call go_on plain =
    subst (λ (x : Option ℕ). Asks (run_sub c x d what go_on) place call) (sym plain.doc_is)
    (subst (λ (x : Decision). Asks (run_sub c (Some place) x what go_on) place call) (sym plain.runs)
    (subst (λ (x : What). Asks (run_sub c (Some place) Run x go_on) place call) (sym plain.plain) (refl, sym plain.call_is)))

abbrev pub calling : Progress → Call → Progress
calling p call = record p { call = Some call }

pub calls_at_once : (p : Progress) (ask : Ask) (sub : SubAsk) (doc : ℕ) (call : Call) → IsProgress p → IsAt p ask sub → p.cell ≡ None
    → IsPlain (caller_of p) (doc_of p.names ask.url) (decide sub.depend p.earlier) sub.what doc call → Proceeds p (calling p call) (Some doc)
calls_at_once p ask sub doc call progress here none plain =
    let there : IsAt (calling p call) ask sub = record { ask_here = here.ask_here; sub_here = here.sub_here } in record {
      same = process_here (calling p call) ask sub there none ∙ sym (process_here p ask sub here none);
      progress = record { within = progress.within; counted = progress.counted; doc = progress.doc; sub_within = progress.sub_within; cell = subst (λ (c : Option CellWork). IfSome c (IsInCell (calling p call))) (sym none) tt };
      ends = record {
        call = call;
        out = refl;
        next = subst (λ (c : Option CellWork). IsNextAt (calling p call) c call) (sym none) (record {
          ask = ask;
          sub = sub;
          here = there;
          doc = doc;
          runs = plain.runs;
          doc_is = plain.doc_is;
          what = plain.sub;
          plain = plain.plain;
          call_is = plain.call_is;
        });
        asks = subst (λ (x : Process). Asks x doc call) (sym (process_here (calling p call) ask sub there none))
            (plain_asks (caller_of p) (doc_of p.names ask.url) (decide sub.depend p.earlier) sub.what doc call (behind p ask sub) plain);
      };
    }

no_forms : (l : List Answer) → l ≡ [] → All (λ (a : Answer). HasForm a.submitted) l
no_forms l e = subst (λ (x : List Answer). All (λ (a : Answer). HasForm a.submitted) x) (sym e) (All-nil (λ (a : Answer). HasForm a.submitted))

pub opens : (p : Progress) (ask : Ask) (sub : SubAsk) (cell : CellWork) → IsProgress p → IsAt p ask sub → p.cell ≡ None → p.call ≡ None
    → BeginsAs (caller_of p) (doc_of p.names ask.url) (decide sub.depend p.earlier) sub.what (Opens cell) → Proceeds p (with_cell (Some cell) p) None
opens p ask sub cell progress here none no_call begins =
    let q : Progress = with_cell (Some cell) p in
    let there : IsAt q ask sub = record { ask_here = here.ask_here; sub_here = here.sub_here } in record {
      same = process_with q ask sub cell None there refl no_call ∙ sym (process_here p ask sub here none ∙ begins.1 (behind p ask sub));
      progress = record {
        within = progress.within;
        counted = progress.counted;
        doc = progress.doc;
        sub_within = progress.sub_within;
        cell = record { ask = ask; sub = sub; here = there; forms = no_forms cell.answers begins.0 };
      };
      ends = (no_call, omega (arith, left_here q ask sub (Some cell) there refl, left_here p ask sub None here none, sub_below p ask sub here));
    }

-- ---- in a Cell

abbrev pub answered : CellWork → List Answer → CellWork
answered cell now = record cell { answers = now }

-- a call of the Cell goes out
pub cell_calls : (p : Progress) (cell now : CellWork) (call : Call) → IsProgress (with_cell (Some cell) p) → p.call ≡ None
    → GoesOnInCell (caller_of p) cell.carried cell.request cell.answers now.answers (Some call) → whole (Some call) now ≡ answered cell now.answers
    → All (λ (a : Answer). HasForm a.submitted) now.answers → Proceeds (with_cell (Some cell) p) (calling (with_cell (Some now) p) call) (Some now.doc)
cell_calls p cell now call progress no_call goes same forms =
    let at : IsInCell (with_cell (Some cell) p) cell = progress.cell in
    let q : Progress = calling (with_cell (Some now) p) call in
    let there : IsAt q at.ask at.sub = record { ask_here = at.here.ask_here; sub_here = at.here.sub_here } in
    let out : process_of q ≡ at_cell q at.ask at.sub (whole (Some call) now) = process_cell q at.ask at.sub now there refl in
    let next : IsNextInWhole q (whole (Some call) now) call = subst (λ (w : CellWork). IsNextInWhole q w call) (sym same) goes.end in
    let go_on : List Answer → Process = λ answers. behind p at.ask at.sub (Cell (response answers) (word_of answers)) in record {
      same = out
          ∙ ap (at_cell q at.ask at.sub) same
          ∙ goes.same cell.doc go_on
          ∙ sym (process_with (with_cell (Some cell) p) at.ask at.sub cell None at.here refl no_call);
      progress = record {
        within = progress.within;
        counted = progress.counted;
        doc = progress.doc;
        sub_within = progress.sub_within;
        cell = record { ask = at.ask; sub = at.sub; here = there; forms = forms };
      };
      ends = record {
        call = call;
        out = refl;
        next = next;
        asks = subst (λ (x : Process). Asks x now.doc call) (sym out)
            (subst (λ (x : Call). Asks (at_cell q at.ask at.sub (whole (Some call) now)) now.doc x) (sym next.call_is)
            (cell_asks (caller_of p) now.doc now.carried (whole (Some call) now).request now.answers next.sub next.what go_on next.here next.asked));
      };
    }

-- the Cell ends
pub cell_ends : (p q : Progress) (cell : CellWork) (now : List Answer) (ask : Ask) (sub : SubAsk) → IsAt p ask sub → p.call ≡ None
    → GoesOnInCell (caller_of p) cell.carried cell.request cell.answers now None → Closes p ask sub (Cell (response now) (word_of now)) q
    → Proceeds (with_cell (Some cell) p) q None
cell_ends p q cell now ask sub here no_call goes closes =
    let there : IsAt (with_cell (Some cell) p) ask sub = record { ask_here = here.ask_here; sub_here = here.sub_here } in
    let go_on : List Answer → Process = λ answers. behind p ask sub (Cell (response answers) (word_of answers)) in record {
      same = closes.goes_on
          ∙ sym (process_with (with_cell (Some cell) p) ask sub cell None there refl no_call
          ∙ sym (goes.same cell.doc go_on)
          ∙ ended (caller_of p) cell.doc cell.carried cell.request now go_on goes.end);
      progress = closes.progress;
      ends = (closes.no_call, omega (arith, closes.left, left_here (with_cell (Some cell) p) ask sub (Some cell) there refl, sub_below p ask sub here));
    }
  where
    ended : (c : Caller) (doc : ℕ) (carried : Option Guid) (r : CellRequest) (now : List Answer) (go_on : List Answer → Process) → drop (length now) r.subs ≡ []
        → cell_with c doc carried r now go_on ≡ go_on now
    ended c doc carried r now go_on e = ap (λ (l : List WireSub). cell_from c doc carried r.elements now l go_on) e

-- ---- what became of a call

-- of a plain one
plain_after : (c : Caller) (doc : Option ℕ) (d : Decision) (what : What) (sub : Sub) (place : ℕ) (submitted : Submitted) (go_on : Outcome → Process)
    → d ≡ Run → doc ≡ Some place → what ≡ asking.Plain sub → after (run_sub c doc d what go_on) submitted ≡ go_on (Plain submitted)
plain_after c doc d what sub place submitted go_on runs doc_is plain =
    subst (λ (x : Option ℕ). after (run_sub c x d what go_on) submitted ≡ go_on (Plain submitted)) (sym doc_is)
    (subst (λ (x : Decision). after (run_sub c (Some place) x what go_on) submitted ≡ go_on (Plain submitted)) (sym runs)
    (subst (λ (x : What). after (run_sub c (Some place) Run x go_on) submitted ≡ go_on (Plain submitted)) (sym plain) refl))

pub plain_settles : (p q : Progress) (call : Call) (submitted : Submitted) → p.cell ≡ None → (next : IsNextInAsk p call)
    → Closes p next.ask next.sub (Plain submitted) q → Settles p submitted q
plain_settles p q call submitted none next closes = record {
  goes_on = closes.goes_on
      ∙ sym (ap (λ (x : Process). after x submitted) (process_here p next.ask next.sub next.here none)
      ∙ plain_after (caller_of p) (doc_of p.names next.ask.url) (decide next.sub.depend p.earlier) next.sub.what next.what next.doc submitted (behind p next.ask next.sub) next.runs next.doc_is next.plain);
  progress = closes.progress;
  no_call = closes.no_call;
}

abbrev settled : Progress → CellWork → Answer → Progress
settled p cell answer = record p { cell = Some (answered cell (cell.answers ++ answer ∷ [])); call = None }

forms_more : (l : List Answer) (a : Answer) → All (λ (x : Answer). HasForm x.submitted) l → HasForm a.submitted → All (λ (x : Answer). HasForm x.submitted) (l ++ a ∷ [])
forms_more l a h g = All-append (λ (x : Answer). HasForm x.submitted) l (a ∷ []) h (All-cons (λ (x : Answer). HasForm x.submitted) a [] g (All-nil (λ (x : Answer). HasForm x.submitted)))

-- of one in a Cell, which is whole again
cell_settles : (p : Progress) (cell : CellWork) (call : Call) (submitted : Submitted) → p.cell ≡ Some cell → p.call ≡ Some call → IsProgress p
    → (next : IsNextInWhole p (whole (Some call) cell) call) → HasForm submitted
    → Settles p submitted (settled p (whole (Some call) cell) (answer_to next.sub submitted))
cell_settles p cell call submitted is out progress next form =
    let at : IsInCell p cell = subst (λ (c : Option CellWork). IfSome c (IsInCell p)) is progress.cell in
    let back : CellWork = whole (Some call) cell in
    let q : Progress = settled p back (answer_to next.sub submitted) in
    let there : IsAt q at.ask at.sub = record { ask_here = at.here.ask_here; sub_here = at.here.sub_here } in
    let go_on : List Answer → Process = λ answers. behind p at.ask at.sub (Cell (response answers) (word_of answers)) in record {
      goes_on = process_cell q at.ask at.sub (answered back (back.answers ++ answer_to next.sub submitted ∷ [])) there refl
          ∙ cell_after (caller_of p) back.doc back.carried back.request back.answers next.sub next.what submitted go_on next.here next.asked
          ∙ sym (ap (λ (x : Process). after x submitted) (process_with p at.ask at.sub cell (Some call) at.here is out));
      progress = record {
        within = progress.within;
        counted = progress.counted;
        doc = progress.doc;
        sub_within = progress.sub_within;
        cell = record { ask = at.ask; sub = at.sub; here = there; forms = forms_more back.answers (answer_to next.sub submitted) at.forms form };
      };
      no_call = refl;
    }

-- with what was found of it
pub cell_settles_with : (p : Progress) (cell back : CellWork) (call : Call) (taken : Option Call) (submitted : Submitted) (s : WireSub) (now : List Answer) → p.cell ≡ Some cell → p.call ≡ Some call → IsProgress p
    → (next : IsNextInWhole p (whole (Some call) cell) call) → Fits call submitted → back ≡ whole (Some call) cell → taken ≡ None → s ≡ next.sub → now ≡ back.answers ++ answer_to s submitted ∷ []
    → Settles p submitted (record p { cell = Some (answered back now); call = taken })
cell_settles_with p cell back call taken submitted s now is out progress next fits back_is none same more =
    rw (more, same, back_is, none) (cell_settles p cell call submitted is out progress next
    (fits_form (caller_of p) cell.carried (whole (Some call) cell).request.elements next.sub.what next.what submitted next.asked (subst (λ (x : Call). Fits x submitted) next.call_is fits)))

-- the call of a Cell, where the Cell is
pub next_in : (p : Progress) (cell : CellWork) (call : Call) → p.cell ≡ Some cell → IsNext p call → IsNextInWhole p (whole (Some call) cell) call
next_in p cell call is next = subst (λ (c : Option CellWork). IsNextAt p c call) is next
