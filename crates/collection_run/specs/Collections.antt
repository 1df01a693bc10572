-- The calls of one envelope, in their order, and the text that it is answered.
use Rattle.std.specs.Prelude.{ℕ, List, [], ◌∷◌, ◌++◌, Result, Ok, Err, Option, Some, None, encode_utf8_all}
use Rattle.compact_values.specs.declared.guid.Guid.{Guid}
use Rattle.doc_model.specs.wire.Responses.{response, failure}
use Rattle.doc_model.specs.declared.call.Call.{Call}
use Rattle.doc_model.specs.declared.call.Sub.{Sub}
use Rattle.doc_model.specs.declared.element.Element.{Element}
use Rattle.doc_model.specs.declared.reply.Answer.{Answer}
use Rattle.doc_model.specs.declared.reply.Submitted.{Submitted}
use Rattle.doc_model.specs.declared.request.CellRequest.{CellRequest}
use Rattle.doc_model.specs.declared.request.WireSub.{WireSub}
use Rattle.http_head.specs.Requests.{place_of}
use Rattle.envelope_read.specs.declared.collection.Ask.{Ask}
use Rattle.envelope_read.specs.declared.collection.Collection.{Collection}
use Rattle.envelope_read.specs.declared.collection.SubAsk.{SubAsk}
use Rattle.envelope_read.specs.declared.collection.What.{What}
use Rattle.envelope_read.specs.declared.collection.What.TheVariants as asking
use Rattle.envelope_read.specs.declared.outcome.CellWord.TheVariants.{CellFail}
use Rattle.envelope_read.specs.declared.outcome.Outcome.{Outcome}
use Rattle.envelope_read.specs.declared.outcome.Outcome.TheVariants.{Plain, Cell, NotSupported, BadArgument, NoDocument, Skipped}
use Rattle.envelope_write.specs.AnswerText.{envelope_text}
use Rattle.dependency_runner.specs.Deciding.{decide, state_of}
use Rattle.dependency_runner.specs.declared.deciding.Decision.{Decision}
use Rattle.dependency_runner.specs.declared.deciding.Decision.TheVariants.{Run, Skip}
use Rattle.dependency_runner.specs.declared.state.Before.{Before}
use Rattle.collection_run.specs.Asking.{asked, answer_to, unknown, word_of}
use Rattle.collection_run.specs.Opening.{request_in}
use Rattle.collection_run.specs.Processes.{Process, says, calls}
use Rattle.collection_run.specs.Urls.{last_segment}

-- who asks: the names of the documents, the moment and the user
pub record Caller : Type 0 where
  pub names : List (List ℕ)
  pub moment : ℕ
  pub user : List ℕ

abbrev pub call_of : Caller → Sub → Call
call_of c sub = record { moment = c.moment; user = c.user; sub = sub }

-- the place of the document of an address: of what follows its last slash, up to the first ? or #
abbrev pub doc_of : List (List ℕ) → List ℕ → Option ℕ
doc_of names url = place_of (last_segment (encode_utf8_all url)) names

-- one of an unknown kind makes no call
abbrev pub ask_known : Caller → ℕ → Option Sub → (Submitted → Process) → Process
ask_known c doc None go_on = go_on unknown
ask_known c doc (Some sub) go_on = calls doc (call_of c sub) go_on

-- The sub-requests of a Cell, in their order, behind these answers.
abbrev pub cell_from : Caller → ℕ → Option Guid → List Element → List Answer → List WireSub → (List Answer → Process) → Process
cell_from c doc carried elements done [] go_on = go_on done
cell_from c doc carried elements done (sub ∷ subs) go_on =
    ask_known c doc (asked carried elements sub.what) (λ submitted.
    cell_from c doc carried elements (done ++ answer_to sub submitted ∷ []) subs go_on)

-- a Cell that cannot be run is answered the number, and makes no call
abbrev pub run_cell : Caller → ℕ → Option Guid → Result CellRequest ℕ → (Outcome → Process) → Process
run_cell c doc carried (Err number) go_on = go_on (Cell (failure number) CellFail)
run_cell c doc carried (Ok request) go_on =
    cell_from c doc carried request.elements [] request.subs (λ answers. go_on (Cell (response answers) (word_of answers)))

-- what a subrequest asks of its document
abbrev pub run_what : Caller → ℕ → What → (Outcome → Process) → Process
run_what c doc (asking.Cell bytes content carried) go_on = run_cell c doc carried (request_in bytes content) go_on
run_what c doc (asking.Plain sub) go_on = calls doc (call_of c sub) (λ submitted. go_on (Plain submitted))
run_what c doc asking.NotSupported go_on = go_on NotSupported
run_what c doc asking.BadArgument go_on = go_on BadArgument

-- the dependency comes before all, and the document before the rest
abbrev pub run_sub : Caller → Option ℕ → Decision → What → (Outcome → Process) → Process
run_sub c doc (Skip why) what go_on = go_on (Skipped why)
run_sub c None Run what go_on = go_on NoDocument
run_sub c (Some doc) Run what go_on = run_what c doc what go_on

abbrev pub before : SubAsk → Outcome → Before
before sub outcome = record { token = sub.token; state = state_of outcome }

-- The subrequests of a Request, in their order, behind these of the same Request and these outcomes of all.
abbrev pub subs_from : Caller → Option ℕ → List Before → List Outcome → List SubAsk → (List Outcome → Process) → Process
subs_from c doc earlier done [] go_on = go_on done
subs_from c doc earlier done (sub ∷ subs) go_on =
    run_sub c doc (decide sub.depend earlier) sub.what (λ outcome.
    subs_from c doc (earlier ++ before sub outcome ∷ []) (done ++ outcome ∷ []) subs go_on)

-- The Requests, in their order, behind these outcomes.
abbrev pub asks_from : Caller → List Outcome → List Ask → (List Outcome → Process) → Process
asks_from c done [] go_on = go_on done
asks_from c done (ask ∷ asks) go_on = subs_from c (doc_of c.names ask.url) [] done ask.subs (λ outcomes. asks_from c outcomes asks go_on)

-- All of an envelope, and its text.
abbrev pub process : Caller → Collection → Process
process c collection = asks_from c [] collection.requests (λ outcomes. says (envelope_text collection outcomes))
