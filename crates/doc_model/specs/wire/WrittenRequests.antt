-- The one written form of a request (MS-FSSHTTPB 2.2.2). Types are hexadecimal. Where a reader ignores what follows the
-- fields, nothing follows.
use Rattle.std.specs.Prelude.{◌≡◌, ◌≢◌, ℕ, List, [], ◌∷◌, ◌++◌}
use Rattle.std.specs.List.{flat_map}
use Rattle.compact_values.specs.Compact.{compact}
use Rattle.compact_values.specs.Ids.{exguid}
use Rattle.compact_values.specs.declared.ids.ExGuid.{ExGuid}
use Rattle.compact_values.specs.declared.ids.Serial.TheVariants.{Null}
use Rattle.stream_objects.specs.Written.{simple_object, compound_object}
use Rattle.stream_objects.specs.declared.object_types.TheConstants.{ALLOCATE_EXTENDED_GUID_RANGE_REQUEST, DATA_ELEMENT_PACKAGE, PUT_CHANGES_REQUEST, QUERY_CHANGES_REQUEST, REQUEST, SUB_REQUEST}
use Rattle.doc_model.specs.wire.WrittenElements.{element_bytes, knowledge_bytes}
use Rattle.doc_model.specs.declared.element.Element.{Element}
use Rattle.doc_model.specs.declared.request.CellRequest.{CellRequest}
use Rattle.doc_model.specs.declared.request.WireSub.{WireSub}
use Rattle.doc_model.specs.declared.request.WireKind.{WireKind}
use Rattle.doc_model.specs.declared.request.WireKind.TheVariants.{Access, Pull, Put, Draw, Unknown}

-- the kinds of sub-requests that ask for this
abbrev pub IsKindOf : WireKind → ℕ → Type 0
IsKindOf Access kind = kind ≡ 1
IsKindOf (Pull knowledge) kind = kind ≡ 2
IsKindOf (Put index expected flags) kind = kind ≡ 5
IsKindOf (Draw count) kind = kind ≡ 11
IsKindOf Unknown kind = (kind ≢ 1) × (kind ≢ 2) × (kind ≢ 5) × (kind ≢ 11)

-- 51, query: the byte 0
unfoldable pub query_bytes : List ℕ
query_bytes = simple_object QUERY_CHANGES_REQUEST (0 ∷ [])

-- 5A, put: extended GUID index, extended GUID expected, the flag byte
unfoldable pub put_bytes : ExGuid → ExGuid → ℕ → List ℕ
put_bytes index expected flags = simple_object PUT_CHANGES_REQUEST (exguid index ++ exguid expected ++ flags ∷ [])

-- 80, allocate request: compact count, the byte 0
unfoldable pub allocate_bytes : ℕ → List ℕ
allocate_bytes count = simple_object ALLOCATE_EXTENDED_GUID_RANGE_REQUEST (compact count ++ 0 ∷ [])

-- what a sub-request holds
unfoldable pub held_bytes : WireKind → List ℕ
held_bytes Access = []
held_bytes (Pull knowledge) = query_bytes ++ knowledge_bytes knowledge
held_bytes (Put index expected flags) = put_bytes index expected flags
held_bytes (Draw count) = allocate_bytes count
held_bytes Unknown = []

-- 42, sub-request, compound: compact id, compact kind, the priority 0
unfoldable pub sub_bytes : WireSub → List ℕ
sub_bytes s = compound_object SUB_REQUEST (compact s.id ++ compact s.kind ++ compact 0) (held_bytes s.what)

-- an element as a client sends it, with a null serial number
abbrev pub sent_bytes : Element → List ℕ
sent_bytes e = element_bytes e Null

-- 15, data element package, compound: the byte 0
unfoldable pub sent_package_bytes : List Element → List ℕ
sent_package_bytes elements = compound_object DATA_ELEMENT_PACKAGE (0 ∷ []) (flat_map sent_bytes elements)

-- version 12, least version 11, and the signature of requests
abbrev pub request_front : List ℕ
request_front = 0x0C ∷ 0x00 ∷ 0x0B ∷ 0x00 ∷ 0x9C ∷ 0xCF ∷ 0x29 ∷ 0xF3 ∷ 0x39 ∷ 0x94 ∷ 0x06 ∷ 0x9B ∷ []

-- the front, and 40, request, compound: no fields; it holds the sub-requests in order and the package behind them
unfoldable pub request_bytes : CellRequest → List ℕ
request_bytes r = request_front ++ compound_object REQUEST [] (flat_map sub_bytes r.subs ++ sent_package_bytes r.elements)
