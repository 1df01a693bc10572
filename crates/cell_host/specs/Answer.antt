-- What `answer` accepts, and what it answers.
use Rattle.std.specs.Prelude.{◌≡◌, ◌≤◌, ◌<◌, ◌^◌, ℕ, List, length, IfSome, slice_index}
use Rattle.std.specs.declared.option.Option.{Option}
use Rattle.compact_values.specs.declared.guid.Guid.{Guid}
use Rattle.http_head.specs.declared.body.TheConstants.{BODY_LIMIT}
use Rattle.doc_model.specs.rules.Apply.{empty_doc}
use Rattle.doc_model.specs.wire.Requests.{IsRequest}
use Rattle.doc_model.specs.wire.Responses.{response}
use Rattle.doc_model.specs.declared.request.CellRequest.{CellRequest}
use Rattle.cell_host.specs.Serving.{answers_of}

-- The input is a request and is not too long.
pub record IsAccepted (input : List ℕ) : Type 0 where
  pub fits : length input ≤ BODY_LIMIT
  pub request : (request : CellRequest) × IsRequest input request

-- The clock, with these moments still to be told, tells this one next; 0 where none is left.
pub record IsNextMoment (told : Option (List ℕ)) (moment : ℕ) : Type 0 where
  pub below : moment < 2 ^ 40
  pub first : IfSome told (λ moments. moment ≡ slice_index moments 0)

-- The output is the response to the request that the input is, run on the empty document of this GUID at the moment that
-- the clock tells next.
pub record Answers (guid : Guid) (told : Option (List ℕ)) (input output : List ℕ) : Type 0 where
  pub request : CellRequest
  pub is_request : IsRequest input request
  pub moment : ℕ
  pub is_next : IsNextMoment told moment
  pub response : output ≡ response (answers_of moment request.elements (empty_doc guid) request.subs)
