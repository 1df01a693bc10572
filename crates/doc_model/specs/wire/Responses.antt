-- The one written form of a list of answers (MS-FSSHTTPB 2.2.3). Types are hexadecimal.
use Rattle.std.specs.Prelude.{ℕ, List, [], ◌∷◌, ◌++◌, Option, Some, None, unwrap_or}
use Rattle.std.specs.List.{flat_map}
use Rattle.std.specs.Int.{w32, to_le_bytes}
use Rattle.compact_values.specs.Compact.{compact}
use Rattle.compact_values.specs.GuidBytes.{guid_bytes}
use Rattle.compact_values.specs.Ids.{exguid}
use Rattle.stream_objects.specs.Written.{simple_object, compound_object}
use Rattle.stream_objects.specs.declared.object_types.TheConstants.{ALLOCATE_EXTENDED_GUID_RANGE_RESPONSE, CELL_ERROR, DATA_ELEMENT_PACKAGE, HRESULT_ERROR, QUERY_CHANGES_RESPONSE, READ_ACCESS_RESPONSE, RESPONSE, RESPONSE_ERROR, SUB_RESPONSE, WRITE_ACCESS_RESPONSE}
use Rattle.doc_model.specs.declared.reply.Answer.{Answer}
use Rattle.doc_model.specs.declared.reply.Reply.TheVariants.{Access, Pulled, Stored, Drawn, Refused}
use Rattle.doc_model.specs.declared.reply.Submitted.{Submitted}
use Rattle.doc_model.specs.declared.reply.Submitted.TheVariants.{Answered, DiskFault, JournalFull, NoMemory}
use Rattle.doc_model.specs.declared.reply.Code.{Code}
use Rattle.doc_model.specs.declared.reply.Code.TheVariants as codes
use Rattle.doc_model.specs.wire.WrittenElements.{knowledge_bytes, numbered_bytes}

-- the number of a code in a cell error, where a sub-request can meet it
abbrev pub code_number : Code → Option ℕ
code_number codes.InvalidObject = Some 2
code_number codes.NotSupported = Some 4
code_number codes.Coherency = Some 12
code_number codes.NotFound = Some 16
code_number codes.StorageLimit = Some 21
code_number codes.Unserializable = Some 23
code_number codes.AlreadyLocked = Some 1001
code_number _ = None

-- 4D, compound, error: the GUID of cell errors; it holds 66, cell error: the number in 4 bytes, least first
abbrev pub error_object : ℕ → List ℕ
error_object n = compound_object RESPONSE_ERROR (guid_bytes 0x5a66a75687ce4290a38bc61c5ba05a67) (simple_object CELL_ERROR (to_le_bytes w32 n))

-- 4D, compound, error: the GUID of HRESULTs; it holds 52, HRESULT: 0, which is success, in 4 bytes
abbrev pub success_object : List ℕ
success_object = compound_object RESPONSE_ERROR (guid_bytes 0x8454c8f2e401405aa198a10b6991b56e) (simple_object HRESULT_ERROR (to_le_bytes w32 0))

-- the status byte of a sub-response, which is 1 for an error
abbrev pub status_byte : Submitted → ℕ
status_byte (Answered (Refused code)) = 1
status_byte (Answered _) = 0
status_byte DiskFault = 1
status_byte JournalFull = 1
status_byte NoMemory = 1

-- What the sub-response holds. Access: 43, read access, and 46, write access, both compound. Pulled: 5F, query answer: extended
-- GUID index, the byte 0; and the knowledge. Stored: the knowledge. Drawn: 81, allocate answer: 16 bytes GUID, compact least,
-- compact greatest.
abbrev pub reply_objects : Submitted → List ℕ
reply_objects (Answered Access) = compound_object READ_ACCESS_RESPONSE [] success_object ++ compound_object WRITE_ACCESS_RESPONSE [] success_object
reply_objects (Answered (Pulled guid index elements knowledge)) = simple_object QUERY_CHANGES_RESPONSE (exguid index ++ 0 ∷ []) ++ knowledge_bytes knowledge
reply_objects (Answered (Stored knowledge)) = knowledge_bytes knowledge
reply_objects (Answered (Drawn guid least greatest)) = simple_object ALLOCATE_EXTENDED_GUID_RANGE_RESPONSE (guid_bytes guid.number ++ compact least ++ compact greatest)
reply_objects (Answered (Refused code)) = error_object (unwrap_or (code_number code) 0)
reply_objects (Answered _) = []
reply_objects DiskFault = error_object 1002
reply_objects JournalFull = error_object 1003
reply_objects NoMemory = error_object 1004

-- 41, compound, sub-response: compact id, compact kind, the status byte
unfoldable pub sub_response : Answer → List ℕ
sub_response a = compound_object SUB_RESPONSE (compact a.id ++ compact a.kind ++ status_byte a.submitted ∷ []) (reply_objects a.submitted)

-- the elements of a pull, with their serial numbers
abbrev pub pulled_bytes : Submitted → List ℕ
pulled_bytes (Answered (Pulled guid index elements knowledge)) = flat_map (numbered_bytes guid) elements
pulled_bytes _ = []

-- version 12, least version 11, and the signature of responses
abbrev pub front : List ℕ
front = 0x0C ∷ 0x00 ∷ 0x0B ∷ 0x00 ∷ 0x9D ∷ 0xCF ∷ 0x29 ∷ 0xF3 ∷ 0x39 ∷ 0x94 ∷ 0x06 ∷ 0x9B ∷ []

-- 15, compound, package: the byte 0; the elements of all pulls in order
unfoldable pub pulled_package : List Answer → List ℕ
pulled_package answers = compound_object DATA_ELEMENT_PACKAGE (0 ∷ []) (flat_map (λ a. pulled_bytes a.submitted) answers)

-- the front, and 62, compound, response: the byte 0; it holds the package, and the sub-responses in order
unfoldable pub response : List Answer → List ℕ
response answers = front ++ compound_object RESPONSE (0 ∷ []) (pulled_package answers ++ flat_map sub_response answers)

-- the front, and 62, compound, response: the byte 1; it holds the error with this number, and nothing else
unfoldable pub failure : ℕ → List ℕ
failure n = front ++ compound_object RESPONSE (1 ∷ []) (error_object n)
