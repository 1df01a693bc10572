-- What the sub-requests of a binary request ask of a document, and what is said of them.
use Rattle.std.specs.Prelude.{ℕ, ◌/◌, ◌%◌, ◌==◌, Bool, List, [], ◌∷◌, Option, Some, None}
use Rattle.compact_values.specs.declared.guid.Guid.{Guid}
use Rattle.compact_values.specs.declared.ids.ExGuid.{ExGuid}
use Rattle.doc_model.specs.declared.call.Put.{Put}
use Rattle.doc_model.specs.declared.call.Sub.{Sub}
use Rattle.doc_model.specs.declared.call.Sub.TheVariants as call
use Rattle.doc_model.specs.declared.element.Element.{Element}
use Rattle.doc_model.specs.declared.reply.Answer.{Answer}
use Rattle.doc_model.specs.declared.reply.Code.TheVariants.{AlreadyLocked, NotSupported}
use Rattle.doc_model.specs.declared.reply.Reply.TheVariants.{Refused}
use Rattle.doc_model.specs.declared.reply.Submitted.{Submitted}
use Rattle.doc_model.specs.declared.reply.Submitted.TheVariants.{Answered, DiskFault, JournalFull, NoMemory}
use Rattle.doc_model.specs.declared.request.WireSub.{WireSub}
use Rattle.doc_model.specs.declared.request.WireKind.{WireKind}
use Rattle.doc_model.specs.declared.request.WireKind.TheVariants as wire
use Rattle.envelope_read.specs.declared.outcome.CellWord.{CellWord}
use Rattle.envelope_read.specs.declared.outcome.CellWord.TheVariants.{Fine, CellFail, Locked, Disk, Full, Memory}

-- whether the flags have the bit of this value
abbrev pub has_flag : ℕ → ℕ → Bool
has_flag flags value = flags / value % 2 == 1

-- An upload of the whole package, by its flags (MS-FSSHTTPB 2.2.2.1.4): bit 0 imply null expected, bit 1 partial, bit 2 the
-- last partial one, bit 7 last writer wins; the others are ignored.
abbrev pub put_of : Option Guid → List Element → ExGuid → ExGuid → ℕ → Put
put_of carried elements index expected flags = record {
  index = index;
  expected = expected;
  imply_null = has_flag flags 1;
  partial = has_flag flags 2;
  last = has_flag flags 4;
  last_writer_wins = has_flag flags 128;
  carried = carried;
  elements = elements;
}

-- What a sub-request asks, beside the elements of its request and the lock id of its Cell; one of an unknown kind asks nothing.
abbrev pub asked : Option Guid → List Element → WireKind → Option Sub
asked carried elements wire.Access = Some call.Access
asked carried elements (wire.Pull knowledge) = Some (call.Pull knowledge)
asked carried elements (wire.Put index expected flags) = Some (call.Put (put_of carried elements index expected flags))
asked carried elements (wire.Draw count) = Some (call.Draw count)
asked carried elements wire.Unknown = None

-- the answer to a sub-request, under its id and its kind
abbrev pub answer_to : WireSub → Submitted → Answer
answer_to sub submitted = record { id = sub.id; kind = sub.kind; submitted = submitted }

-- what becomes of one of an unknown kind
abbrev pub unknown : Submitted
unknown = Answered (Refused NotSupported)

-- what is said of a sub-request that failed, if it did
abbrev pub fault_of : Submitted → Option CellWord
fault_of (Answered (Refused AlreadyLocked)) = Some Locked
fault_of (Answered (Refused code)) = Some CellFail
fault_of (Answered reply) = None
fault_of DiskFault = Some Disk
fault_of JournalFull = Some Full
fault_of NoMemory = Some Memory

abbrev pub or_word : Option CellWord → CellWord → CellWord
or_word (Some word) later = word
or_word None later = later

-- what is said of a Cell: the first sub-request that failed decides
abbrev pub word_of : List Answer → CellWord
word_of [] = Fine
word_of (a ∷ answers) = or_word (fault_of a.submitted) (word_of answers)
