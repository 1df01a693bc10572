-- Reading a response: what it says, or where the fields of the first object start that isn't in its form.
use Rattle.std.specs.Prelude.{ℕ, Bool, true, false, List, [], ◌∷◌, ◌++◌, ◌==◌, ◌&&◌, is_some, Option, Some, None, option_and_then, Result, Ok, Err, if◌then◌else◌}
use Rattle.compact_values.specs.Reading.{number_of}
use Rattle.compact_values.specs.Taking.{take_compact, take_byte, take_guid, take_exguid, take_both}
use Rattle.compact_values.specs.declared.guid.Guid.{Guid}
use Rattle.compact_values.specs.declared.ids.ExGuid.{ExGuid}
use Rattle.stream_objects.specs.declared.tree.Tree.{Tree}
use Rattle.stream_objects.specs.declared.tree.Tree.TheViews.{out-Tree}
use Rattle.stream_objects.specs.Objects.{is_kind, start_of, children_of}
use Rattle.stream_objects.specs.ObjectFields.{simple_fields, single}
use Rattle.stream_objects.specs.Gathering.{and_then}
use Rattle.stream_objects.specs.declared.object_types.TheConstants.{ALLOCATE_EXTENDED_GUID_RANGE_RESPONSE, CELL_ERROR, DATA_ELEMENT_PACKAGE, HRESULT_ERROR, KNOWLEDGE, QUERY_CHANGES_RESPONSE, READ_ACCESS_RESPONSE, RESPONSE, RESPONSE_ERROR, SUB_RESPONSE, WRITE_ACCESS_RESPONSE}
use Rattle.doc_model.specs.readers.KnowledgeSites.{guid_row}
use Rattle.doc_model.specs.wire.SeenResponses.{cell_error, hresult_error, reply_form, blank}
use Rattle.doc_model.specs.readers.ResponseSites.{comes_first, sub_row}
use Rattle.doc_model.specs.declared.element.NumberedElement.{NumberedElement}
use Rattle.doc_model.specs.declared.knowledge.Knowledge.{Knowledge}
use Rattle.doc_model.specs.declared.knowledge.Range.{Range}
use Rattle.doc_model.specs.declared.response.CellResponse.{CellResponse}
use Rattle.doc_model.specs.declared.response.ReplyForm.{ReplyForm}
use Rattle.doc_model.specs.declared.response.ReplyForm.TheVariants.{Failed, Access, Pulled, Stored, Drawn}
use Rattle.doc_model.specs.declared.response.Seen.{Seen}
use Rattle.data_elements.specs.Checking.{or_broken}
use Rattle.data_elements.specs.KnowledgeReading.{knowledge_at}
use Rattle.data_elements.specs.NumberedReading.{numbered_package_at}
use Rattle.data_elements.specs.Rows.{simple_row, has_no_fields, package_row}

-- ---- errors

abbrev pub four_bytes : List ℕ → Option ℕ
four_bytes [] = None
four_bytes (a ∷ []) = None
four_bytes (a ∷ b ∷ []) = None
four_bytes (a ∷ b ∷ c ∷ []) = None
four_bytes (a ∷ b ∷ c ∷ d ∷ []) = Some (number_of (a ∷ b ∷ c ∷ d ∷ []))
four_bytes (a ∷ b ∷ c ∷ d ∷ e ∷ rest) = None

-- the number of an error
unfoldable pub number_row : List ℕ → Tree → Option ℕ
number_row input t = option_and_then four_bytes (simple_fields input t)

-- whether there is a GUID, with this number
abbrev pub is_guid : Guid → Option Guid → Bool
is_guid wanted (Some guid) = guid.number == wanted.number
is_guid wanted None = false

abbrev pub number_at : List ℕ → Tree → Result ℕ ℕ
number_at input t = or_broken (start_of t) (number_row input t)

abbrev pub if_zero : ℕ → Option ℕ → Result (Unit {0}) ℕ
if_zero place (Some n) = if n == 0 then Ok tt else Err place
if_zero place None = Err place

abbrev pub zero_at : List ℕ → Tree → Result (Unit {0}) ℕ
zero_at input t = if_zero (start_of t) (number_row input t)

-- what the only child says, where there is one
abbrev pub in_child : {V : Type 0} → ℕ → (Tree → Result V ℕ) → Option Tree → Result V ℕ
in_child place read (Some c) = read c
in_child place read None = Err place

-- a cell error
unfoldable pub failure_at : List ℕ → Tree → Result ℕ ℕ
failure_at input t = if is_guid cell_error (guid_row input t) then in_child (start_of t) (number_at input) (single (children_of CELL_ERROR t)) else Err (start_of t)

-- an HRESULT of 0
unfoldable pub success_at : List ℕ → Tree → Result (Unit {0}) ℕ
success_at input t = if is_guid hresult_error (guid_row input t) then in_child (start_of t) (zero_at input) (single (children_of HRESULT_ERROR t)) else Err (start_of t)

-- ---- what a sub-response holds

unfoldable pub access_at : List ℕ → Tree → Result (Unit {0}) ℕ
access_at input t = if has_no_fields input t then in_child (start_of t) (success_at input) (single (children_of RESPONSE_ERROR t)) else Err (start_of t)

unfoldable pub query_row : List ℕ → Tree → Option (ExGuid × ℕ)
query_row input t = simple_row (take_both take_exguid take_byte) input t

abbrev pub if_whole : ℕ → Option (ExGuid × ℕ) → Result ExGuid ℕ
if_whole place (Some x) = if x.1 == 0 then Ok x.0 else Err place
if_whole place None = Err place

unfoldable pub query_at : List ℕ → Tree → Result ExGuid ℕ
query_at input t = if_whole (start_of t) (query_row input t)

unfoldable pub allocate_row : List ℕ → Tree → Option (Guid × (ℕ × ℕ))
allocate_row input t = simple_row (take_both take_guid (take_both take_compact take_compact)) input t

unfoldable pub allocate_at : List ℕ → Tree → Result (Guid × (ℕ × ℕ)) ℕ
allocate_at input t = or_broken (start_of t) (allocate_row input t)

abbrev pub knowledge_of : Result (List Range) ℕ → Result Knowledge ℕ
knowledge_of (Ok ranges) = Ok (record { ranges = ranges })
knowledge_of (Err place) = Err place

unfoldable pub known_at : List ℕ → Tree → Result Knowledge ℕ
known_at input t = knowledge_of (knowledge_at input t)

-- ---- sub-responses

abbrev pub failed_seen : ℕ → ℕ → ℕ → Seen
failed_seen id kind n = record (blank id kind) { fault = Some n }

abbrev pub pulled_seen : ℕ → ℕ → ExGuid → Knowledge → Seen
pulled_seen id kind i k = record (blank id kind) { index = i; knowledge = k }

abbrev pub stored_seen : ℕ → ℕ → Knowledge → Seen
stored_seen id kind k = record (blank id kind) { knowledge = k }

abbrev pub drawn_seen : ℕ → ℕ → Guid × (ℕ × ℕ) → Seen
drawn_seen id kind x = record (blank id kind) { guid = x.0; least = x.1.0; greatest = x.1.1 }

unfoldable pub failed_at : List ℕ → Tree → ℕ → ℕ → Result Seen ℕ
failed_at input t id kind = in_child (start_of t) (λ c. and_then (failure_at input c) (λ n. Ok (failed_seen id kind n))) (single (children_of RESPONSE_ERROR t))

-- what two children say, the one that stands first read first
abbrev pub both_with : {A B V : Type 0} → (Tree → Result A ℕ) → (Tree → Result B ℕ) → (A → B → V) → ℕ → Bool → Option Tree → Option Tree → Result V ℕ
both_with one other make place true (Some c) (Some d) = and_then (one c) (λ a. and_then (other d) (λ b. Ok (make a b)))
both_with one other make place false (Some c) (Some d) = and_then (other d) (λ b. and_then (one c) (λ a. Ok (make a b)))
both_with one other make place first (Some c) None = Err place
both_with one other make place first None d = Err place

unfoldable pub answered_access_at : List ℕ → Tree → ℕ → ℕ → Result Seen ℕ
answered_access_at input t id kind =
    both_with (access_at input) (access_at input) (λ u v. blank id kind) (start_of t) (comes_first READ_ACCESS_RESPONSE WRITE_ACCESS_RESPONSE (out-Tree t).children) (single (children_of READ_ACCESS_RESPONSE t)) (single (children_of WRITE_ACCESS_RESPONSE t))

unfoldable pub pulled_at : List ℕ → Tree → ℕ → ℕ → Result Seen ℕ
pulled_at input t id kind =
    both_with (query_at input) (known_at input) (pulled_seen id kind) (start_of t) (comes_first QUERY_CHANGES_RESPONSE KNOWLEDGE (out-Tree t).children) (single (children_of QUERY_CHANGES_RESPONSE t)) (single (children_of KNOWLEDGE t))

unfoldable pub stored_at : List ℕ → Tree → ℕ → ℕ → Result Seen ℕ
stored_at input t id kind = in_child (start_of t) (λ c. and_then (known_at input c) (λ k. Ok (stored_seen id kind k))) (single (children_of KNOWLEDGE t))

unfoldable pub drawn_at : List ℕ → Tree → ℕ → ℕ → Result Seen ℕ
drawn_at input t id kind = in_child (start_of t) (λ c. and_then (allocate_at input c) (λ x. Ok (drawn_seen id kind x))) (single (children_of ALLOCATE_EXTENDED_GUID_RANGE_RESPONSE t))

abbrev pub reply_at : List ℕ → Tree → ℕ → ℕ → Option ReplyForm → Result Seen ℕ
reply_at input t id kind (Some Failed) = failed_at input t id kind
reply_at input t id kind (Some Access) = answered_access_at input t id kind
reply_at input t id kind (Some Pulled) = pulled_at input t id kind
reply_at input t id kind (Some Stored) = stored_at input t id kind
reply_at input t id kind (Some Drawn) = drawn_at input t id kind
reply_at input t id kind None = Err (start_of t)

abbrev pub sub_with : List ℕ → Tree → Option (ℕ × (ℕ × ℕ)) → Result Seen ℕ
sub_with input t (Some f) = reply_at input t f.0 f.1.0 (reply_form f.1.0 f.1.1)
sub_with input t None = Err (start_of t)

unfoldable pub sub_at : List ℕ → Tree → Result Seen ℕ
sub_at input t = sub_with input t (sub_row input t)

-- ---- the response

abbrev pub and_answer : CellResponse → Result Seen ℕ → Result CellResponse ℕ
and_answer r (Ok seen) = Ok (record r { answers = r.answers ++ seen ∷ [] })
and_answer r (Err place) = Err place

abbrev pub and_elements : CellResponse → Result (List NumberedElement) ℕ → Result CellResponse ℕ
and_elements r (Ok elements) = Ok (record r { elements = r.elements ++ elements })
and_elements r (Err place) = Err place

-- a child, behind what was read before
unfoldable pub child_at : List ℕ → CellResponse → Tree → Result CellResponse ℕ
child_at input r t =
    if is_kind SUB_RESPONSE t then and_answer r (sub_at input t)
    else if is_kind DATA_ELEMENT_PACKAGE t then and_elements r (numbered_package_at input t)
    else Ok r

abbrev pub children_at : List ℕ → List Tree → CellResponse → Result CellResponse ℕ
children_at input [] r = Ok r
children_at input (t ∷ ts) r = and_then (child_at input r t) (children_at input ts)

abbrev pub is_zero : Option ℕ → Bool
is_zero (Some n) = n == 0
is_zero None = false

abbrev pub nothing_read : CellResponse
nothing_read = record { answers = []; elements = [] }

unfoldable pub response_at : List ℕ → Tree → Result CellResponse ℕ
response_at input t =
    if is_kind RESPONSE t && is_zero (package_row input t) && is_some (single (children_of DATA_ELEMENT_PACKAGE t)) then children_at input (out-Tree t).children nothing_read
    else Err (start_of t)
