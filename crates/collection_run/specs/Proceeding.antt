-- The steps of a collection.
use Rattle.std.specs.Prelude.{◌≡◌, ℕ, ◌+◌, ◌-◌, ◌*◌, ◌<◌, ◌≤◌, List, [], ◌∷◌, length, drop, Option, Some, None}
use Rattle.doc_model.specs.wire.Responses.{response}
use Rattle.doc_model.specs.declared.call.Call.{Call}
use Rattle.doc_model.specs.declared.call.Sub.{Sub}
use Rattle.doc_model.specs.declared.reply.Submitted.{Submitted}
use Rattle.envelope_read.specs.declared.collection.Ask.{Ask}
use Rattle.envelope_read.specs.declared.collection.SubAsk.{SubAsk}
use Rattle.envelope_read.specs.declared.collection.What.{What}
use Rattle.envelope_read.specs.declared.collection.What.TheVariants as asking
use Rattle.envelope_read.specs.declared.outcome.Outcome.{Outcome}
use Rattle.envelope_read.specs.declared.outcome.Outcome.TheVariants.{Cell}
use Rattle.dependency_runner.specs.declared.deciding.Decision.{Decision}
use Rattle.dependency_runner.specs.declared.deciding.Decision.TheVariants.{Run}
use Rattle.collection_run.specs.declared.cell.CellWork.{CellWork}
use Rattle.collection_run.specs.declared.beginning.Begun.{Begun}
use Rattle.collection_run.specs.declared.beginning.Begun.TheVariants.{Ended, Calls, Opens}
use Rattle.collection_run.specs.declared.progress.Progress.{Progress}
use Rattle.collection_run.specs.Asking.{word_of}
use Rattle.collection_run.specs.Collections.{Caller, call_of, run_sub}
use Rattle.collection_run.specs.Processes.{Process, Asks, after}
use Rattle.collection_run.specs.Progress.{IsProgress, IsNext, cell_with, closed, process_of}

-- a plain subrequest that is run, on a document
pub record IsPlain (c : Caller) (doc : Option ℕ) (decision : Decision) (what : What) (d : ℕ) (call : Call) : Type 0 where
  pub runs : decision ≡ Run
  pub doc_is : doc ≡ Some d
  pub sub : Sub
  pub plain : what ≡ asking.Plain sub
  pub call_is : call ≡ call_of c sub

-- what a subrequest begins with
abbrev pub BeginsAs : Caller → Option ℕ → Decision → What → Begun → Type 0
BeginsAs c doc decision what (Ended outcome) = (go_on : Outcome → Process) → run_sub c doc decision what go_on ≡ go_on outcome
BeginsAs c doc decision what (Calls d call) = IsPlain c doc decision what d call
BeginsAs c doc decision what (Opens cell) = (cell.answers ≡ []) × ((go_on : Outcome → Process) → run_sub c doc decision what go_on
    ≡ cell_with c cell.doc cell.carried cell.request cell.answers (λ answers. go_on (Cell (response answers) (word_of answers))))

-- ---- how many proceeds there may still be

abbrev pub asks_left : List Ask → ℕ
asks_left [] = 0
asks_left (ask ∷ asks) = 1 + (2 * length ask.subs + asks_left asks)

-- a Cell that is open has one proceed less
abbrev pub subs_left : Option CellWork → ℕ → ℕ
subs_left None count = 2 * count
subs_left (Some cell) count = 2 * count - 1

abbrev pub turns_at : Progress → List Ask → ℕ
turns_at p [] = 0
turns_at p (ask ∷ asks) = 1 + (subs_left p.cell (length ask.subs - p.sub) + asks_left asks)

abbrev pub turns_left : Progress → ℕ
turns_left p = turns_at p (drop p.request p.collection.requests)

-- ---- the steps

-- the present subrequest has ended with this outcome
pub record Closes (p : Progress) (ask : Ask) (sub : SubAsk) (outcome : Outcome) (q : Progress) : Type 0 where
  pub goes_on : process_of q ≡ closed p ask (drop (p.request + 1) p.collection.requests) sub (drop (p.sub + 1) ask.subs) outcome
  pub progress : IsProgress q
  pub none : q.cell ≡ None
  pub no_call : q.call ≡ None
  pub left : turns_left q ≡ 1 + (2 * (length ask.subs - (p.sub + 1)) + asks_left (drop (p.request + 1) p.collection.requests))

-- the call that is out
pub record IsOut (q : Progress) (doc : ℕ) : Type 0 where
  pub call : Call
  pub out : q.call ≡ Some call
  pub next : IsNext q call
  pub asks : Asks (process_of q) doc call

-- one proceed: a call is out, or less is left
abbrev pub TurnEnds : Progress → Progress → Option ℕ → Type 0
TurnEnds p q None = (q.call ≡ None) × (turns_left q < turns_left p)
TurnEnds p q (Some doc) = IsOut q doc

pub record Proceeds (p q : Progress) (result : Option ℕ) : Type 0 where
  pub same : process_of q ≡ process_of p
  pub progress : IsProgress q
  pub ends : TurnEnds p q result

-- all is done
abbrev pub IsDone : Progress → Type 0
IsDone q = length q.collection.requests ≤ q.request

-- a call is out, or all is done
abbrev pub AdvanceEnds : Progress → Option ℕ → Type 0
AdvanceEnds q None = (q.call ≡ None) × IsDone q
AdvanceEnds q (Some doc) = IsOut q doc

-- a call is out, or all is done
pub record Advances (p q : Progress) (result : Option ℕ) : Type 0 where
  pub same : process_of q ≡ process_of p
  pub progress : IsProgress q
  pub ends : AdvanceEnds q result

-- what became of the call that was out was taken
pub record Settles (p : Progress) (submitted : Submitted) (q : Progress) : Type 0 where
  pub goes_on : process_of q ≡ after (process_of p) submitted
  pub progress : IsProgress q
  pub no_call : q.call ≡ None
