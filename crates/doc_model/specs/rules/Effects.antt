-- What a call does with a document.
use Rattle.std.specs.Prelude.{Bool, false, List, Option, None, Some, find, option_map}
use Rattle.doc_model.specs.declared.doc.Doc.{Doc}
use Rattle.doc_model.specs.declared.reply.Code.{Code}
use Rattle.doc_model.specs.declared.reply.Reply.{Reply}
use Rattle.doc_model.specs.declared.reply.Reply.TheVariants.{Refused}

-- the document afterwards, the reply, and whether the call is a change of the document
pub record Effect : Type 0 where
  pub doc : Doc
  pub reply : Reply
  pub moved : Bool

-- a call that reads, and one that is refused
abbrev pub reading : Doc → Reply → Effect
reading doc r = record { doc = doc; reply = r; moved = false }

abbrev pub refused : Doc → Code → Effect
refused doc c = reading doc (Refused c)

-- the first refusal whose reason holds
abbrev pub first_refusal : List (Bool × Code) → Option Code
first_refusal reasons = option_map (λ r. r.1) (find (λ r. r.0) reasons)

-- refused, or else done
abbrev pub unless : Option Code → Doc → Effect → Effect
unless None doc done = done
unless (Some c) doc done = refused doc c
