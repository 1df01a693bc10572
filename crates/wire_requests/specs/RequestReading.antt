-- Reading a request: what its objects say, or where the fields of the first object start that isn't in its form.
use Rattle.std.specs.Prelude.{ℕ, List, [], ◌∷◌, ◌++◌, ◌==◌, ◌&&◌, nat_lt, is_some, length, Option, Some, None, option_and_then, Result, Ok, Err, if◌then◌else◌}
use Rattle.compact_values.specs.Taking.{take_compact, take_byte, take_exguid, take_both, if_some}
use Rattle.compact_values.specs.declared.ids.ExGuid.{ExGuid}
use Rattle.stream_objects.specs.declared.tree.Tree.{Tree}
use Rattle.stream_objects.specs.declared.tree.Tree.TheViews.{out-Tree}
use Rattle.stream_objects.specs.Objects.{is_kind, start_of, children_of, fields_of}
use Rattle.stream_objects.specs.ObjectFields.{simple_fields, single}
use Rattle.stream_objects.specs.Gathering.{and_then, gather}
use Rattle.stream_objects.specs.declared.object_types.TheConstants.{ALLOCATE_EXTENDED_GUID_RANGE_REQUEST, DATA_ELEMENT_PACKAGE, PUT_CHANGES_REQUEST, QUERY_CHANGES_REQUEST, REQUEST, SUB_REQUEST}
use Rattle.doc_model.specs.wire.Requests.{first_knowledge, puts_in}
use Rattle.doc_model.specs.readers.RequestSites.{sub_row}
use Rattle.doc_model.specs.declared.knowledge.Knowledge.{Knowledge}
use Rattle.doc_model.specs.declared.knowledge.Range.{Range}
use Rattle.doc_model.specs.declared.request.CellRequest.{CellRequest}
use Rattle.doc_model.specs.declared.request.WireSub.{WireSub}
use Rattle.doc_model.specs.declared.request.WireKind.{WireKind}
use Rattle.doc_model.specs.declared.request.WireKind.TheVariants.{Access, Pull, Put, Draw, Unknown}
use Rattle.data_elements.specs.KnowledgeReading.{knowledge_at}
use Rattle.data_elements.specs.Reading.{package_at}

-- ---- a query

abbrev pub knowledge_of : Result (List Range) ℕ → Result Knowledge ℕ
knowledge_of (Ok ranges) = Ok (record { ranges = ranges })
knowledge_of (Err place) = Err place

-- where there is no knowledge, nothing is known
abbrev pub known_at : List ℕ → Option Tree → Result Knowledge ℕ
known_at input (Some t) = knowledge_of (knowledge_at input t)
known_at input None = Ok (record { ranges = [] })

abbrev pub pull_of : Result Knowledge ℕ → Result WireKind ℕ
pull_of (Ok knowledge) = Ok (Pull knowledge)
pull_of (Err place) = Err place

unfoldable pub pull_at : List ℕ → Tree → Result WireKind ℕ
pull_at input t = if is_some (single (children_of QUERY_CHANGES_REQUEST t)) then pull_of (known_at input (first_knowledge t)) else Err (start_of t)

-- ---- a put

abbrev pub put_row : List ℕ → Tree → Option (ExGuid × (ExGuid × ℕ))
put_row input t = if_some (take_both take_exguid (take_both take_exguid take_byte) (fields_of input t))

abbrev pub put_of : ℕ → Option (ExGuid × (ExGuid × ℕ)) → Result WireKind ℕ
put_of place (Some put) = Ok (Put put.0 put.1.0 put.1.1)
put_of place None = Err place

-- behind so many others
unfoldable pub put_fields_at : List ℕ → ℕ → Tree → Result WireKind ℕ
put_fields_at input m t = if nat_lt m 4 then put_of (start_of t) (put_row input t) else Err (start_of t)

abbrev pub put_in : List ℕ → ℕ → ℕ → Option Tree → Result WireKind ℕ
put_in input m place (Some c) = put_fields_at input m c
put_in input m place None = Err place

unfoldable pub put_at : List ℕ → ℕ → Tree → Result WireKind ℕ
put_at input m t = put_in input m (start_of t) (single (children_of PUT_CHANGES_REQUEST t))

-- ---- a draw

abbrev pub allocate_row : List ℕ → Tree → Option (ℕ × ℕ)
allocate_row input t = option_and_then (λ b. if_some (take_both take_compact take_byte b)) (simple_fields input t)

abbrev pub draw_of : ℕ → Option (ℕ × ℕ) → Result WireKind ℕ
draw_of place (Some fields) = Ok (Draw fields.0)
draw_of place None = Err place

unfoldable pub allocate_at : List ℕ → Tree → Result WireKind ℕ
allocate_at input t = draw_of (start_of t) (allocate_row input t)

abbrev pub draw_in : List ℕ → ℕ → Option Tree → Result WireKind ℕ
draw_in input place (Some c) = allocate_at input c
draw_in input place None = Err place

unfoldable pub draw_at : List ℕ → Tree → Result WireKind ℕ
draw_at input t = draw_in input (start_of t) (single (children_of ALLOCATE_EXTENDED_GUID_RANGE_REQUEST t))

-- ---- a sub-request

-- what one of this kind asks for, behind so many puts
unfoldable pub what_at : List ℕ → ℕ → Tree → ℕ → Result WireKind ℕ
what_at input m t kind =
    if kind == 1 then Ok Access
    else if kind == 2 then pull_at input t
    else if kind == 5 then put_at input m t
    else if kind == 11 then draw_at input t
    else Ok Unknown

abbrev pub sub_of : ℕ → ℕ → Result WireKind ℕ → Result WireSub ℕ
sub_of id kind (Ok what) = Ok (record { id = id; kind = kind; what = what })
sub_of id kind (Err place) = Err place

abbrev pub sub_with : List ℕ → ℕ → Tree → Option (ℕ × (ℕ × ℕ)) → Result WireSub ℕ
sub_with input m t (Some fields) = sub_of fields.0 fields.1.0 (what_at input m t fields.1.0)
sub_with input m t None = Err (start_of t)

-- the n-th, behind so many puts
unfoldable pub sub_at : List ℕ → ℕ → ℕ → Tree → Result WireSub ℕ
sub_at input n m t = if nat_lt n 64 then sub_with input m t (sub_row input t) else Err (start_of t)

abbrev pub and_sub : List WireSub → Result WireSub ℕ → Result (List WireSub) ℕ
and_sub subs (Ok sub) = Ok (subs ++ sub ∷ [])
and_sub subs (Err place) = Err place

-- a child of a request, behind these sub-requests
unfoldable pub child_at : List ℕ → List WireSub → Tree → Result (List WireSub) ℕ
child_at input subs t = if is_kind SUB_REQUEST t then and_sub subs (sub_at input (length subs) (puts_in subs) t) else Ok subs

-- ---- a request

abbrev pub behind_first : Tree → Option (List Tree × (Tree × List Tree)) → Option (List Tree × (Tree × List Tree))
behind_first t (Some s) = Some (t ∷ s.0, s.1)
behind_first t None = None

-- what stands before the first package, the package, and what stands behind it
abbrev pub split : List Tree → Option (List Tree × (Tree × List Tree))
split [] = None
split (t ∷ ts) = if is_kind DATA_ELEMENT_PACKAGE t then Some ([], (t, ts)) else behind_first t (split ts)

abbrev pub parts_at : List ℕ → List Tree → Tree → List Tree → Result CellRequest ℕ
parts_at input before package_object behind =
    and_then (gather (child_at input) [] before) (λ subs.
    and_then (package_at input package_object) (λ elements.
    and_then (gather (child_at input) subs behind) (λ all. Ok (record { subs = all; elements = elements }))))

abbrev pub split_at : List ℕ → ℕ → Option (List Tree × (Tree × List Tree)) → Result CellRequest ℕ
split_at input place (Some s) = parts_at input s.0 s.1.0 s.1.1
split_at input place None = Err place

unfoldable pub request_at : List ℕ → Tree → Result CellRequest ℕ
request_at input t =
    if is_kind REQUEST t && (out-Tree t).compound && is_some (single (children_of DATA_ELEMENT_PACKAGE t)) then split_at input (start_of t) (split (out-Tree t).children)
    else Err (start_of t)
