-- How far a collection is, and what is still to come of it.
use Rattle.std.specs.Prelude.{◌≡◌, ℕ, ◌+◌, ◌≤◌, List, [], ◌∷◌, ◌++◌, length, take, drop, All, Option, Some, None, IfSome}
use Rattle.compact_values.specs.declared.guid.Guid.{Guid}
use Rattle.doc_model.specs.wire.Responses.{response}
use Rattle.doc_model.specs.declared.call.Call.{Call}
use Rattle.doc_model.specs.declared.call.Sub.{Sub}
use Rattle.doc_model.specs.declared.call.Sub.TheVariants.{Put}
use Rattle.doc_model.specs.declared.element.Element.{Element}
use Rattle.doc_model.specs.declared.reply.Answer.{Answer}
use Rattle.doc_model.specs.declared.request.CellRequest.{CellRequest}
use Rattle.doc_model.specs.declared.request.WireSub.{WireSub}
use Rattle.envelope_read.specs.declared.collection.Ask.{Ask}
use Rattle.envelope_read.specs.declared.collection.SubAsk.{SubAsk}
use Rattle.envelope_read.specs.declared.collection.What.TheVariants.{Plain}
use Rattle.envelope_read.specs.declared.outcome.Outcome.{Outcome}
use Rattle.envelope_read.specs.declared.outcome.Outcome.TheVariants.{Cell}
use Rattle.envelope_read.specs.Callable.{subs_of}
use Rattle.envelope_write.specs.AnswerText.{envelope_text}
use Rattle.wire_responses.specs.Forms.{HasForm}
use Rattle.dependency_runner.specs.Deciding.{decide}
use Rattle.dependency_runner.specs.declared.deciding.Decision.TheVariants.{Run}
use Rattle.collection_run.specs.declared.cell.CellWork.{CellWork}
use Rattle.collection_run.specs.declared.progress.Progress.{Progress}
use Rattle.collection_run.specs.Asking.{asked, word_of}
use Rattle.collection_run.specs.Collections.{Caller, call_of, doc_of, cell_from, subs_from, asks_from, before}
use Rattle.collection_run.specs.Processes.{Process, says}

-- ---- a Cell

-- what is still to come of a Cell with these answers
abbrev pub cell_with : Caller → ℕ → Option Guid → CellRequest → List Answer → (List Answer → Process) → Process
cell_with c doc carried request done go_on = cell_from c doc carried request.elements done (drop (length done) request.subs) go_on

-- The elements of a Cell's package, of which a put that is out has all: the call holds them meanwhile.
abbrev pub elements_with : Sub → List Element → List Element
elements_with (Put put) elements = put.elements
elements_with what elements = elements

-- the same for what a sub-request asks, if its kind is known
abbrev pub elements_asked : Option Sub → List Element → List Element
elements_asked None elements = elements
elements_asked (Some what) elements = elements_with what elements

-- the Cell with what the call that is out, if any, holds of it
abbrev pub whole : Option Call → CellWork → CellWork
whole None cell = cell
whole (Some call) cell = record cell { request = record { subs = cell.request.subs; elements = elements_with call.sub cell.request.elements } }

-- the next call of the Cell
pub record IsNextInCell (c : Caller) (carried : Option Guid) (request : CellRequest) (done : List Answer) (call : Call) : Type 0 where
  pub sub : WireSub
  pub here : drop (length done) request.subs ≡ sub ∷ drop (length done + 1) request.subs
  pub what : Sub
  pub asked : asked carried request.elements sub.what ≡ Some what
  pub call_is : call ≡ call_of c what

-- its next call, or the end
abbrev pub EndsInCell : Caller → Option Guid → CellRequest → List Answer → Option Call → Type 0
EndsInCell c carried request done None = drop (length done) request.subs ≡ []
EndsInCell c carried request done (Some call) = IsNextInCell c carried request done call

-- the same is to come of the Cell, and its next call is found, or there is none
pub record GoesOnInCell (c : Caller) (carried : Option Guid) (request : CellRequest) (done now : List Answer) (call : Option Call) : Type 0 where
  pub same : (doc : ℕ) (go_on : List Answer → Process) → cell_with c doc carried request now go_on ≡ cell_with c doc carried request done go_on
  pub end : EndsInCell c carried request now call

-- ---- a collection

abbrev pub caller_of : Progress → Caller
caller_of p = record { names = p.names; moment = p.moment; user = p.user }

abbrev pub finish : Progress → List Outcome → Process
finish p outcomes = says (envelope_text p.collection outcomes)

-- behind the present subrequest, with this outcome of it
abbrev pub closed : Progress → Ask → List Ask → SubAsk → List SubAsk → Outcome → Process
closed p ask asks sub subs outcome =
    subs_from (caller_of p) (doc_of p.names ask.url) (p.earlier ++ before sub outcome ∷ []) (p.outcomes ++ outcome ∷ []) subs
    (λ outcomes. asks_from (caller_of p) outcomes asks (finish p))

-- in a Cell
abbrev pub in_cell : Progress → Ask → List Ask → List SubAsk → CellWork → Process
in_cell p ask asks [] cell = says []
in_cell p ask asks (sub ∷ subs) cell =
    cell_with (caller_of p) cell.doc cell.carried cell.request cell.answers (λ answers.
    closed p ask asks sub subs (Cell (response answers) (word_of answers)))

-- in a Request
abbrev pub in_ask : Progress → Ask → List Ask → Option CellWork → Process
in_ask p ask asks None =
    subs_from (caller_of p) (doc_of p.names ask.url) p.earlier p.outcomes (drop p.sub ask.subs)
    (λ outcomes. asks_from (caller_of p) outcomes asks (finish p))
in_ask p ask asks (Some cell) = in_cell p ask asks (drop p.sub ask.subs) (whole p.call cell)

abbrev pub at_asks : Progress → List Ask → Process
at_asks p [] = finish p p.outcomes
at_asks p (ask ∷ asks) = in_ask p ask asks p.cell

-- what is still to come
abbrev pub process_of : Progress → Process
process_of p = at_asks p (drop p.request p.collection.requests)

-- the same with this Cell
abbrev pub with_cell : Option CellWork → Progress → Progress
with_cell cell p = record p { cell = cell }

-- ---- what holds of it

-- the present Request and subrequest
pub record IsAt (p : Progress) (ask : Ask) (sub : SubAsk) : Type 0 where
  pub ask_here : drop p.request p.collection.requests ≡ ask ∷ drop (p.request + 1) p.collection.requests
  pub sub_here : drop p.sub ask.subs ≡ sub ∷ drop (p.sub + 1) ask.subs

-- a Cell that is being run is the present subrequest, and its answers have forms
pub record IsInCell (p : Progress) (cell : CellWork) : Type 0 where
  pub ask : Ask
  pub sub : SubAsk
  pub here : IsAt p ask sub
  pub forms : All (λ a. HasForm a.submitted) cell.answers

-- the outcomes are those of the Requests behind and of the subrequests behind in the present one
abbrev pub subs_behind : Progress → List Ask → ℕ
subs_behind p [] = 0
subs_behind p (ask ∷ asks) = p.sub

-- the document of the first of these Requests
abbrev pub doc_at : List (List ℕ) → List Ask → Option ℕ
doc_at names [] = None
doc_at names (ask ∷ asks) = doc_of names ask.url

pub record IsProgress (p : Progress) : Type 0 where
  pub within : p.request ≤ length p.collection.requests
  pub counted : length p.outcomes ≡ subs_of (take p.request p.collection.requests) + subs_behind p (drop p.request p.collection.requests)
  pub doc : p.doc ≡ doc_at p.names (drop p.request p.collection.requests)
  pub sub_within : (ask : Ask) (asks : List Ask) → drop p.request p.collection.requests ≡ ask ∷ asks → p.sub ≤ length ask.subs
  pub cell : IfSome p.cell (IsInCell p)

-- the call that is out is that of a plain subrequest
pub record IsNextInAsk (p : Progress) (call : Call) : Type 0 where
  pub ask : Ask
  pub sub : SubAsk
  pub here : IsAt p ask sub
  pub doc : ℕ
  pub runs : decide sub.depend p.earlier ≡ Run
  pub doc_is : doc_of p.names ask.url ≡ Some doc
  pub what : Sub
  pub plain : sub.what ≡ Plain what
  pub call_is : call ≡ call_of (caller_of p) what

-- the call that is out is that of a sub-request of the Cell, which is whole
abbrev pub IsNextInWhole : Progress → CellWork → Call → Type 0
IsNextInWhole p cell call = IsNextInCell (caller_of p) cell.carried cell.request cell.answers call

abbrev pub IsNextAt : Progress → Option CellWork → Call → Type 0
IsNextAt p (Some cell) call = IsNextInWhole p (whole (Some call) cell) call
IsNextAt p None call = IsNextInAsk p call

-- the call that is out is the next one
abbrev pub IsNext : Progress → Call → Type 0
IsNext p call = IsNextAt p p.cell call
