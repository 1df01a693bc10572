-- What the sub-requests of a request ask of a document, and what each is answered.
use Rattle.std.specs.Prelude.{ℕ, ◌/◌, ◌%◌, ◌==◌, Bool, List, [], ◌∷◌, codes, Option, Some, None}
use Rattle.compact_values.specs.declared.ids.ExGuid.{ExGuid}
use Rattle.doc_model.specs.rules.Apply.{apply}
use Rattle.doc_model.specs.rules.Effects.{Effect, refused}
use Rattle.doc_model.specs.declared.call.Call.{Call}
use Rattle.doc_model.specs.declared.call.Put.{Put}
use Rattle.doc_model.specs.declared.call.Sub.{Sub}
use Rattle.doc_model.specs.declared.call.Sub.TheVariants as call
use Rattle.doc_model.specs.declared.doc.Doc.{Doc}
use Rattle.doc_model.specs.declared.element.Element.{Element}
use Rattle.doc_model.specs.declared.reply.Answer.{Answer}
use Rattle.doc_model.specs.declared.reply.Code.TheVariants.{NotSupported}
use Rattle.doc_model.specs.declared.reply.Submitted.TheVariants.{Answered}
use Rattle.doc_model.specs.declared.request.WireSub.{WireSub}
use Rattle.doc_model.specs.declared.request.WireKind.{WireKind}
use Rattle.doc_model.specs.declared.request.WireKind.TheVariants as wire

-- the user of all calls
abbrev pub anonymous : List ℕ
anonymous = codes "anonymous"

-- whether the flags have the bit of this value
abbrev pub has_flag : ℕ → ℕ → Bool
has_flag flags value = flags / value % 2 == 1

-- An upload of the whole package, by its flags (MS-FSSHTTPB 2.2.2.1.4): bit 0 imply null expected, bit 1 partial, bit 2 the
-- last partial one, bit 7 last writer wins; the others are ignored. It carries no lock id.
abbrev pub put_of : List Element → ExGuid → ExGuid → ℕ → Put
put_of elements index expected flags = record {
  index = index;
  expected = expected;
  imply_null = has_flag flags 1;
  partial = has_flag flags 2;
  last = has_flag flags 4;
  last_writer_wins = has_flag flags 128;
  carried = None;
  elements = elements;
}

-- What a sub-request asks, beside the elements of its request; one of an unknown kind asks nothing.
abbrev pub asked : List Element → WireKind → Option Sub
asked elements wire.Access = Some call.Access
asked elements (wire.Pull knowledge) = Some (call.Pull knowledge)
asked elements (wire.Put index expected flags) = Some (call.Put (put_of elements index expected flags))
asked elements (wire.Draw count) = Some (call.Draw count)
asked elements wire.Unknown = None

abbrev pub call_of : ℕ → Sub → Call
call_of moment sub = record { moment = moment; user = anonymous; sub = sub }

-- What becomes of the document. Where nothing is asked that is known, no call is made and it is refused as not supported.
abbrev pub effect_of : ℕ → Doc → Option Sub → Effect
effect_of moment doc (Some sub) = apply doc (call_of moment sub)
effect_of moment doc None = refused doc NotSupported

abbrev pub effect : ℕ → List Element → Doc → WireSub → Effect
effect moment elements doc sub = effect_of moment doc (asked elements sub.what)

-- the answer to a sub-request, under its id and its kind
abbrev pub answer_to : WireSub → Effect → Answer
answer_to sub t = record { id = sub.id; kind = sub.kind; submitted = Answered t.reply }

-- the answers in order, each on the document that the one before it left
abbrev pub answers_of : ℕ → List Element → Doc → List WireSub → List Answer
answers_of moment elements doc [] = []
answers_of moment elements doc (sub ∷ subs) =
    answer_to sub (effect moment elements doc sub) ∷ answers_of moment elements (effect moment elements doc sub).doc subs
