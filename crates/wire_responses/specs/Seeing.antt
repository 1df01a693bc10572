-- What a client reads of the written response of a list of answers, and which answers are so written that it can.
use Rattle.std.specs.Prelude.{◌≡◌, ℕ, ◌+◌, ◌^◌, ◌<◌, List, [], map, length, Some, IsSome}
use Rattle.std.specs.List.{flat_map, sum_by, AllByRecursion}
use Rattle.compact_values.specs.Ids.{FitsGuid, FitsExGuid}
use Rattle.doc_model.specs.wire.FittingElements.{FitsNumbered, FitsRange}
use Rattle.doc_model.specs.wire.Responses.{code_number}
use Rattle.doc_model.specs.wire.SeenResponses.{blank}
use Rattle.doc_model.specs.rules.Weights.{objects_written}
use Rattle.doc_model.specs.declared.element.NumberedElement.{NumberedElement}
use Rattle.doc_model.specs.declared.reply.Answer.{Answer}
use Rattle.doc_model.specs.declared.reply.Reply.TheVariants.{Access, Pulled, Stored, Drawn, Refused}
use Rattle.doc_model.specs.declared.reply.Submitted.{Submitted}
use Rattle.doc_model.specs.declared.reply.Submitted.TheVariants.{Answered, DiskFault, JournalFull, NoMemory}
use Rattle.doc_model.specs.declared.response.CellResponse.{CellResponse}
use Rattle.doc_model.specs.declared.response.Seen.{Seen}

-- what is read of the sub-response of an answer
abbrev pub seen_as : ℕ → ℕ → Submitted → Seen
seen_as id kind (Answered (Pulled g i elements k)) = record (blank id kind) { index = i; knowledge = k }
seen_as id kind (Answered (Stored k)) = record (blank id kind) { knowledge = k }
seen_as id kind (Answered (Drawn g first last)) = record (blank id kind) { guid = g; least = first; greatest = last }
seen_as id kind (Answered (Refused code)) = record (blank id kind) { fault = code_number code }
seen_as id kind (Answered _) = blank id kind
seen_as id kind DiskFault = record (blank id kind) { fault = Some 1002 }
seen_as id kind JournalFull = record (blank id kind) { fault = Some 1003 }
seen_as id kind NoMemory = record (blank id kind) { fault = Some 1004 }

abbrev pub seen_answer : Answer → Seen
seen_answer a = seen_as a.id a.kind a.submitted

-- the elements of an answer
abbrev pub pulled : Submitted → List NumberedElement
pulled (Answered (Pulled g i elements k)) = elements
pulled _ = []

-- what is read of the response
abbrev pub seen : List Answer → CellResponse
seen answers = record { answers = map seen_answer answers; elements = flat_map (λ a. pulled a.submitted) answers }

-- An answer that isn't an error is that of a sub-request of its kind. Numbers are in the ranges of their fields.
abbrev pub FitsReply : ℕ → Submitted → Type 0
FitsReply kind (Answered Access) = kind ≡ 1
FitsReply kind (Answered (Pulled g i elements k)) = (kind ≡ 2) × FitsGuid g × FitsExGuid i × AllByRecursion FitsNumbered elements × AllByRecursion FitsRange k.ranges
FitsReply kind (Answered (Stored k)) = (kind ≡ 5) × AllByRecursion FitsRange k.ranges
FitsReply kind (Answered (Drawn g first last)) = (kind ≡ 11) × FitsGuid g × (first < 2 ^ 64) × (last < 2 ^ 64)
FitsReply kind (Answered (Refused code)) = IsSome (code_number code)
FitsReply kind (Answered _) = ⊥
FitsReply kind DiskFault = Unit {0}
FitsReply kind JournalFull = Unit {0}
FitsReply kind NoMemory = Unit {0}

abbrev pub FitsAnswer : Answer → Type 0
FitsAnswer a = (a.id < 2 ^ 64) × (a.kind < 2 ^ 64) × FitsReply a.kind a.submitted

-- how many stream objects are written in a sub-response
abbrev pub reply_objects_written : Submitted → ℕ
reply_objects_written (Answered Access) = 6
reply_objects_written (Answered (Pulled g i elements k)) = 1 + (3 + length k.ranges)
reply_objects_written (Answered (Stored k)) = 3 + length k.ranges
reply_objects_written (Answered (Drawn g first last)) = 1
reply_objects_written (Answered (Refused code)) = 2
reply_objects_written (Answered _) = 0
reply_objects_written DiskFault = 2
reply_objects_written JournalFull = 2
reply_objects_written NoMemory = 2

-- and for its elements
abbrev pub element_objects_written : Answer → ℕ
element_objects_written a = sum_by (λ n. objects_written n.element) (pulled a.submitted)

abbrev pub answer_objects_written : Answer → ℕ
answer_objects_written a = 1 + reply_objects_written a.submitted

-- how many are written in a response
abbrev pub response_objects : List Answer → ℕ
response_objects answers = 1 + ((1 + sum_by element_objects_written answers) + sum_by answer_objects_written answers)
