-- What is answered to a binary sub-request has a form in a response.
use Rattle.std.proofs.Common.{ℕ, Bool, List, [], ◌∷◌, refl, IsSome, inl, inr}
use Rattle.std.specs.Prelude.{Option, Some, None}
use Rattle.std.specs.List.{All, AllByRecursion}
use Rattle.std.proofs.lemmas.List.Elements.{All-nil, All-cons}
use Rattle.std.proofs.lemmas.Bool.{cases_Bool}
use Rattle.doc_model.specs.rules.Puts.{put, is_part, part_refusal, commit_refusal, part_reasons, commit_reasons, sent, sent_to, added_by, kept, committed}
use Rattle.doc_model.specs.rules.Drawing.{can_draw, draw}
use Rattle.doc_model.specs.wire.Responses.{code_number}
use Rattle.doc_model.specs.rules.Effects.{Effect, first_refusal, unless}
use Rattle.doc_model.specs.declared.call.Put.{Put}
use Rattle.doc_model.specs.declared.doc.Doc.{Doc}
use Rattle.doc_model.specs.declared.element.Element.{Element}
use Rattle.doc_model.specs.declared.reply.Answer.{Answer}
use Rattle.doc_model.specs.declared.reply.Code.{Code}
use Rattle.doc_model.specs.declared.reply.Submitted.TheVariants.{Answered}
use Rattle.doc_model.specs.declared.request.WireSub.{WireSub}
use Rattle.doc_model.specs.declared.request.WireKind.{WireKind}
use Rattle.doc_model.specs.declared.request.WireKind.TheVariants as wire
use Rattle.wire_responses.specs.Forms.{HasForm}
use Rattle.cell_host.specs.Serving.{anonymous, answer_to, answers_of, asked, put_of, effect, effect_of}

-- the code, if there is one, has a number
abbrev IsNumbered : Option Code → Type 0
IsNumbered None = Unit {0}
IsNumbered (Some code) = IsSome (code_number code)

-- of reasons whose codes all have numbers
first_numbered : (reasons : List (Bool × Code)) → AllByRecursion (λ r. IsSome (code_number r.1)) reasons → IsNumbered (first_refusal reasons)
first_numbered [] h = tt
first_numbered (r ∷ rs) h =
    elim (cases_Bool r.0) [
      | inl y ↦ rw y h.0
      | inr n ↦ rw n (first_numbered rs h.1)
    ]

unless_form : (refusal : Option Code) (doc : Doc) (done : Effect) → IsNumbered refusal → HasForm (Answered done.reply) → HasForm (Answered (unless refusal doc done).reply)
unless_form None doc done n h = h
unless_form (Some code) doc done n h = n

part_form : (doc : Doc) (moment : ℕ) (p : Put) → HasForm (Answered (unless (part_refusal doc moment p) doc (kept doc moment p)).reply)
part_form doc moment p = unless_form (part_refusal doc moment p) doc (kept doc moment p) (first_numbered (part_reasons doc moment p (sent doc.parts p)) (refl, (refl, (refl, tt)))) tt

commit_form : (doc : Doc) (moment : ℕ) (user : List ℕ) (p : Put) → HasForm (Answered (unless (commit_refusal doc moment p) doc (committed doc moment user p)).reply)
commit_form doc moment user p =
    unless_form (commit_refusal doc moment p) doc (committed doc moment user p)
    (first_numbered (commit_reasons doc moment p (sent_to doc p) (added_by doc p)) (refl, (refl, (refl, (refl, (refl, (refl, (refl, (refl, tt))))))))) tt

put_form : (doc : Doc) (moment : ℕ) (user : List ℕ) (p : Put) → HasForm (Answered (put doc moment user p).reply)
put_form doc moment user p =
    elim (cases_Bool (is_part p)) [
      | inl y ↦ rw y (part_form doc moment p)
      | inr n ↦ rw n (commit_form doc moment user p)
    ]

draw_form : (doc : Doc) (count : ℕ) → HasForm (Answered (draw doc count).reply)
draw_form doc count =
    elim (cases_Bool (can_draw doc count)) [
      | inl y ↦ rw y tt
      | inr n ↦ rw n refl
    ]

pub kind_form : (moment : ℕ) (elements : List Element) (doc : Doc) (kind : WireKind) → HasForm (Answered (effect_of moment doc (asked elements kind)).reply)
kind_form moment elements doc wire.Access = tt
kind_form moment elements doc (wire.Pull knowledge) = tt
kind_form moment elements doc (wire.Put index expected flags) = put_form doc moment anonymous (put_of elements index expected flags)
kind_form moment elements doc (wire.Draw count) = draw_form doc count
kind_form moment elements doc wire.Unknown = refl

pub answers_form : (moment : ℕ) (elements : List Element) (doc : Doc) (subs : List WireSub) → All (λ (a : Answer). HasForm a.submitted) (answers_of moment elements doc subs)
answers_form moment elements doc [] = All-nil (λ (a : Answer). HasForm a.submitted)
answers_form moment elements doc (sub ∷ subs) =
    All-cons (λ (a : Answer). HasForm a.submitted) (answer_to sub (effect moment elements doc sub)) (answers_of moment elements (effect moment elements doc sub).doc subs)
    (kind_form moment elements doc sub.what) (answers_form moment elements (effect moment elements doc sub).doc subs)
