-- The form of a response as a client reads it (MS-FSSHTTPB 2.2.3): a line an object type. Types are hexadecimal, kinds of
-- sub-requests decimal. The fields fill the object exactly. A child whose type isn't named has no place there, and is skipped
-- with all that it holds.
use Rattle.std.specs.Prelude.{◌≡◌, ◌==◌, ℕ, ◌%◌, ◌^◌, ◌<◌, ◌≤◌, true, false, List, [], ◌∷◌, length, Option, Some, None, if◌then◌else◌}
use Rattle.std.specs.List.{slice_range}
use Rattle.compact_values.specs.Compact.{SpellsCompact, little_endian}
use Rattle.compact_values.specs.Ids.{SpellsGuid, SpellsExGuid}
use Rattle.compact_values.specs.Kinds.{SpellsBy}
use Rattle.compact_values.specs.Sequences.{◌▹◌, SpellsByte}
use Rattle.compact_values.specs.declared.guid.Guid.{Guid}
use Rattle.compact_values.specs.declared.ids.ExGuid.{ExGuid}
use Rattle.compact_values.specs.declared.ids.ExGuid.TheVariants.{Null}
use Rattle.stream_objects.specs.declared.tree.Tree.{Tree}
use Rattle.stream_objects.specs.Objects.{HasFields, One, Any, kind_of}
use Rattle.stream_objects.specs.Trees.{IsTreeAt}
use Rattle.stream_objects.specs.declared.object_types.TheConstants.{ALLOCATE_EXTENDED_GUID_RANGE_RESPONSE, CELL_ERROR, DATA_ELEMENT_PACKAGE, HRESULT_ERROR, KNOWLEDGE, QUERY_CHANGES_RESPONSE, READ_ACCESS_RESPONSE, RESPONSE, RESPONSE_ERROR, SUB_RESPONSE, WRITE_ACCESS_RESPONSE}
use Rattle.doc_model.specs.wire.ElementObjects.{NoFields}
use Rattle.doc_model.specs.wire.Knowledges.{IsKnowledge}
use Rattle.doc_model.specs.rules.Limits.{most_elements}
use Rattle.doc_model.specs.wire.NumberedElements.{IsNumberedPackage}
use Rattle.doc_model.specs.declared.knowledge.Knowledge.{Knowledge}
use Rattle.doc_model.specs.declared.response.Seen.{Seen}
use Rattle.doc_model.specs.declared.response.CellResponse.{CellResponse}
use Rattle.doc_model.specs.declared.response.ReplyForm.{ReplyForm}
use Rattle.doc_model.specs.declared.response.ReplyForm.TheVariants.{Failed, Access, Pulled, Stored, Drawn}

-- ---- errors (2.2.3.2)

-- the GUID of cell errors, 5a66a756-87ce-4290-a38b-c61c5ba05a67, and that of HRESULT errors, 8454c8f2-e401-405a-a198-a10b6991b56e
abbrev pub cell_error : Guid
cell_error = record { number = 0x5a66a75687ce4290a38bc61c5ba05a67 }

abbrev pub hresult_error : Guid
hresult_error = record { number = 0x8454c8f2e401405aa198a10b6991b56e }

-- The bytes are the number in 4 bytes, the least first.
abbrev pub SpellsNumber : ℕ → List ℕ → Type 0
SpellsNumber = SpellsBy (λ v. v < 2 ^ 32) (little_endian 4)

-- 66, cell error, and 52, HRESULT: 4 bytes
abbrev pub ErrorNumber : List ℕ → Tree → ℕ → Type 0
ErrorNumber input t number = HasFields false SpellsNumber input t number

-- 4D, compound, error: 16 bytes GUID
abbrev pub ErrorFields : List ℕ → Tree → Guid → Type 0
ErrorFields input t guid = HasFields true SpellsGuid input t guid

-- 4D with the GUID of cell errors, which holds exactly one 66
abbrev pub IsCellError : List ℕ → Tree → ℕ → Type 0
IsCellError input t number = ErrorFields input t cell_error × One CELL_ERROR (ErrorNumber input) t number

-- 4D with the GUID of HRESULT errors, which holds exactly one 52 with the number 0
abbrev pub IsSuccess : List ℕ → Tree → Unit {0} → Type 0
IsSuccess input t u = ErrorFields input t hresult_error × One HRESULT_ERROR (ErrorNumber input) t 0

-- ---- what a sub-response holds

-- 43, compound, read access, and 46, compound, write access: no fields; exactly one 4D (2.2.3.1.1)
abbrev pub IsAccess : List ℕ → Tree → Unit {0} → Type 0
IsAccess input t u = NoFields input t × One RESPONSE_ERROR (IsSuccess input) t tt

-- 5F, query answer: extended GUID index, and the byte 0, since the answer is whole (2.2.3.1.2)
abbrev pub QueryFields : List ℕ → Tree → ExGuid → Type 0
QueryFields input t index = HasFields false (SpellsExGuid ▹ SpellsByte) input t (index, 0)

-- 81, allocate answer: 16 bytes GUID, compact least, compact greatest
abbrev pub AllocateFields : List ℕ → Tree → Guid × (ℕ × ℕ) → Type 0
AllocateFields input t numbers = HasFields false (SpellsGuid ▹ SpellsCompact ▹ SpellsCompact) input t numbers

-- ---- sub-responses

-- 41, compound, sub-response: compact id, compact kind, the status byte
abbrev pub SubResponseFields : List ℕ → Tree → ℕ → ℕ → ℕ → Type 0
SubResponseFields input t id kind status = HasFields true (SpellsCompact ▹ SpellsCompact ▹ SpellsByte) input t (id, (kind, status))

-- An odd status is an error. Else the kind tells what the sub-response holds; there is no other kind.
abbrev pub reply_form : ℕ → ℕ → Option ReplyForm
reply_form kind status =
    if status % 2 == 1 then Some Failed
    else if kind == 1 then Some Access
    else if kind == 2 then Some Pulled
    else if kind == 5 then Some Stored
    else if kind == 11 then Some Drawn
    else None

-- an answer without any part
abbrev pub blank : ℕ → ℕ → Seen
blank id kind = record {
  id = id;
  kind = kind;
  fault = None;
  guid = record { number = 0 };
  index = Null;
  knowledge = record { ranges = [] };
  least = 0;
  greatest = 0;
}

-- what the children of a sub-response say, where it has this form
abbrev pub Says : List ℕ → Tree → ℕ → ℕ → ReplyForm → Seen → Type 0
Says input t id kind Failed seen = (n : ℕ) × One RESPONSE_ERROR (IsCellError input) t n × (seen ≡ record (blank id kind) { fault = Some n })
Says input t id kind Access seen = One READ_ACCESS_RESPONSE (IsAccess input) t tt × One WRITE_ACCESS_RESPONSE (IsAccess input) t tt × (seen ≡ blank id kind)
Says input t id kind Pulled seen =
    (i : ExGuid) × (k : Knowledge) × One QUERY_CHANGES_RESPONSE (QueryFields input) t i × One KNOWLEDGE (IsKnowledge input) t k × (seen ≡ record (blank id kind) { index = i; knowledge = k })
Says input t id kind Stored seen = (k : Knowledge) × One KNOWLEDGE (IsKnowledge input) t k × (seen ≡ record (blank id kind) { knowledge = k })
Says input t id kind Drawn seen =
    (x : Guid × (ℕ × ℕ)) × One ALLOCATE_EXTENDED_GUID_RANGE_RESPONSE (AllocateFields input) t x × (seen ≡ record (blank id kind) { guid = x.0; least = x.1.0; greatest = x.1.1 })

-- a sub-response
pub record IsSeen (input : List ℕ) (t : Tree) (seen : Seen) : Type 0 where
  pub id : ℕ
  pub kind : ℕ
  pub status : ℕ
  pub fields : SubResponseFields input t id kind status
  pub form : ReplyForm
  pub form_is : reply_form kind status ≡ Some form
  pub says : Says input t id kind form seen

-- ---- the response

-- 62, compound, response: the byte 0; exactly one 15 and any number of 41
pub record IsCellResponse (input : List ℕ) (t : Tree) (response : CellResponse) : Type 0 where
  pub kind : kind_of t ≡ RESPONSE
  pub fields : HasFields true SpellsByte input t 0
  pub elements : One DATA_ELEMENT_PACKAGE (IsNumberedPackage input) t response.elements
  pub answers : Any SUB_RESPONSE (IsSeen input) t response.answers

-- The front is version 12 and least version 11, each in 2 bytes, and the signature of responses.
pub record HasVersions (bytes : List ℕ) : Type 0 where
  pub long : 12 ≤ length bytes
  pub versions : slice_range bytes 0 4 ≡ 0x0C ∷ 0x00 ∷ 0x0B ∷ 0x00 ∷ []

abbrev pub HasSignature : List ℕ → Type 0
HasSignature bytes = slice_range bytes 4 12 ≡ 0x9D ∷ 0xCF ∷ 0x29 ∷ 0xF3 ∷ 0x39 ∷ 0x94 ∷ 0x06 ∷ 0x9B ∷ []

-- The bytes are read as this response: the front, a tree in the form of a response, and nothing more. It has at most 8,192
-- elements.
pub record ReadsAs (bytes : List ℕ) (response : CellResponse) : Type 0 where
  pub versions : HasVersions bytes
  pub signature : HasSignature bytes
  pub tree : Tree
  pub stands : IsTreeAt bytes tree 12 (length bytes)
  pub form : IsCellResponse bytes tree response
  pub few : length response.elements ≤ most_elements
