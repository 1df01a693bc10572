-- What becomes of a binary sub-request has a form in a response.
use Rattle.std.proofs.Common.{◌≡◌, ℕ, Bool, List, [], ◌∷◌, refl, subst, IsSome, inl, inr}
use Rattle.std.specs.Prelude.{Option, Some, None}
use Rattle.std.specs.List.{AllByRecursion}
use Rattle.std.proofs.lemmas.Bool.{cases_Bool}
use Rattle.compact_values.specs.declared.guid.Guid.{Guid}
use Rattle.doc_model.specs.rules.Apply.{apply}
use Rattle.doc_model.specs.rules.Histories.{Fits}
use Rattle.doc_model.specs.rules.Puts.{put, is_part, part_refusal, commit_refusal, part_reasons, commit_reasons, sent, sent_to, added_by, kept, committed}
use Rattle.doc_model.specs.rules.Drawing.{can_draw, draw}
use Rattle.doc_model.specs.wire.Responses.{code_number}
use Rattle.doc_model.specs.rules.Effects.{Effect, first_refusal, unless}
use Rattle.doc_model.specs.declared.call.Put.{Put}
use Rattle.doc_model.specs.declared.call.Sub.{Sub}
use Rattle.doc_model.specs.declared.doc.Doc.{Doc}
use Rattle.doc_model.specs.declared.element.Element.{Element}
use Rattle.doc_model.specs.declared.reply.Code.{Code}
use Rattle.doc_model.specs.declared.reply.Reply.{Reply}
use Rattle.doc_model.specs.declared.reply.Submitted.{Submitted}
use Rattle.doc_model.specs.declared.reply.Submitted.TheVariants.{Answered, DiskFault, JournalFull, NoMemory}
use Rattle.doc_model.specs.declared.request.WireKind.{WireKind}
use Rattle.doc_model.specs.declared.request.WireKind.TheVariants as wire
use Rattle.wire_responses.specs.Forms.{HasForm}
use Rattle.collection_run.specs.Asking.{asked, put_of}
use Rattle.collection_run.specs.Collections.{Caller, call_of}

-- the code, if there is one, has a number
abbrev IsNumbered : Option Code → Type 0
IsNumbered None = Unit {0}
IsNumbered (Some code) = IsSome (code_number code)

-- of reasons whose codes all have numbers
first_numbered : (reasons : List (Bool × Code)) → AllByRecursion (λ r. IsSome (code_number r.1)) reasons → IsNumbered (first_refusal reasons)
first_numbered [] h = tt
first_numbered (r ∷ rs) h =
    elim (cases_Bool r.0) [
      | inl y ↦ rw y h.0
      | inr n ↦ rw n (first_numbered rs h.1)
    ]

unless_form : (refusal : Option Code) (doc : Doc) (done : Effect) → IsNumbered refusal → HasForm (Answered done.reply) → HasForm (Answered (unless refusal doc done).reply)
unless_form None doc done n h = h
unless_form (Some code) doc done n h = n

part_form : (doc : Doc) (moment : ℕ) (p : Put) → HasForm (Answered (unless (part_refusal doc moment p) doc (kept doc moment p)).reply)
part_form doc moment p = unless_form (part_refusal doc moment p) doc (kept doc moment p) (first_numbered (part_reasons doc moment p (sent doc.parts p)) (refl, (refl, (refl, tt)))) tt

commit_form : (doc : Doc) (moment : ℕ) (user : List ℕ) (p : Put) → HasForm (Answered (unless (commit_refusal doc moment p) doc (committed doc moment user p)).reply)
commit_form doc moment user p =
    unless_form (commit_refusal doc moment p) doc (committed doc moment user p)
    (first_numbered (commit_reasons doc moment p (sent_to doc p) (added_by doc p)) (refl, (refl, (refl, (refl, (refl, (refl, (refl, (refl, tt))))))))) tt

put_form : (doc : Doc) (moment : ℕ) (user : List ℕ) (p : Put) → HasForm (Answered (put doc moment user p).reply)
put_form doc moment user p =
    elim (cases_Bool (is_part p)) [
      | inl y ↦ rw y (part_form doc moment p)
      | inr n ↦ rw n (commit_form doc moment user p)
    ]

draw_form : (doc : Doc) (count : ℕ) → HasForm (Answered (draw doc count).reply)
draw_form doc count =
    elim (cases_Bool (can_draw doc count)) [
      | inl y ↦ rw y tt
      | inr n ↦ rw n refl
    ]

-- every reply to it has one
abbrev IsFormed : Caller → Option Sub → Type 0
IsFormed c None = Unit {0}
IsFormed c (Some what) = (doc : Doc) → HasForm (Answered (apply doc (call_of c what)).reply)

kind_form : (c : Caller) (carried : Option Guid) (elements : List Element) (kind : WireKind) → IsFormed c (asked carried elements kind)
kind_form c carried elements wire.Access = λ doc. tt
kind_form c carried elements (wire.Pull knowledge) = λ doc. tt
kind_form c carried elements (wire.Put index expected flags) = λ doc. put_form doc c.moment c.user (put_of carried elements index expected flags)
kind_form c carried elements (wire.Draw count) = λ doc. draw_form doc count
kind_form c carried elements wire.Unknown = tt

pub fits_form : (c : Caller) (carried : Option Guid) (elements : List Element) (kind : WireKind) (what : Sub) (submitted : Submitted)
    → asked carried elements kind ≡ Some what → Fits (call_of c what) submitted → HasForm submitted
fits_form c carried elements kind what (Answered reply) e (doc, sound, is) =
    subst (λ (r : Reply). HasForm (Answered r)) is (subst (IsFormed c) e (kind_form c carried elements kind) doc)
fits_form c carried elements kind what DiskFault e fits = tt
fits_form c carried elements kind what JournalFull e fits = tt
fits_form c carried elements kind what NoMemory e fits = tt
