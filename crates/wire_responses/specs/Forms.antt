-- Which answers have a form in a response: those of binary sub-requests.
use Rattle.std.specs.Prelude.{IsSome}
use Rattle.doc_model.specs.wire.Responses.{code_number}
use Rattle.doc_model.specs.declared.reply.Reply.TheVariants.{Access, Pulled, Stored, Drawn, Refused}
use Rattle.doc_model.specs.declared.reply.Submitted.{Submitted}
use Rattle.doc_model.specs.declared.reply.Submitted.TheVariants.{Answered, DiskFault, JournalFull, NoMemory}

-- A refusal has one where its code has a number.
abbrev pub HasForm : Submitted → Type 0
HasForm (Answered Access) = Unit {0}
HasForm (Answered (Pulled guid index elements knowledge)) = Unit {0}
HasForm (Answered (Stored knowledge)) = Unit {0}
HasForm (Answered (Drawn guid least greatest)) = Unit {0}
HasForm (Answered (Refused code)) = IsSome (code_number code)
HasForm (Answered _) = ⊥
HasForm DiskFault = Unit {0}
HasForm JournalFull = Unit {0}
HasForm NoMemory = Unit {0}
