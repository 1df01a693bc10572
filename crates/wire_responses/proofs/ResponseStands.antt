-- The written form of a response is read as what its answers say.
use Rattle.std.proofs.Common.{◌≡◌, ℕ, suc, ◌+◌, ◌^◌, ◌<◌, ◌≤◌, true, List, [], ◌∷◌, ◌++◌, length, map, refl, sym, ap, subst, inl, arith}
use Rattle.std.specs.Prelude.{filter}
use Rattle.std.specs.List.{flat_map, sum_by, AllByRecursion}
use Rattle.std.proofs.lemmas.List.{length-append, append-nil}
use Rattle.compact_values.specs.Ids.{FitsGuid}
use Rattle.compact_values.specs.Sequences.{SpellsByte}
use Rattle.compact_values.specs.declared.guid.Guid.{Guid}
use Rattle.compact_values.specs.declared.ids.Serial.TheVariants.{Number}
use Rattle.stream_objects.specs.Objects.{HasFields, One, Any, kind_of, is_kind, start_of}
use Rattle.stream_objects.specs.Trees.{IsObject, IsTreeAt}
use Rattle.stream_objects.specs.Written.{started, compound_object}
use Rattle.stream_objects.specs.declared.tree.Tree.{Tree}
use Rattle.stream_objects.specs.declared.tree.Tree.TheViews.{out-Tree}
use Rattle.stream_objects.proofs.Standing.{At, at_front, at_back, inside_at, Whole, Run, all_stand, branch, filter_all}
use Rattle.doc_model.specs.wire.FittingElements.{FitsNumbered}
use Rattle.doc_model.specs.wire.NumberedElements.{IsNumbered, IsNumberedPackage}
use Rattle.doc_model.specs.wire.Responses.{front, error_object, failure, sub_response, pulled_bytes, pulled_package, response}
use Rattle.doc_model.specs.wire.SeenResponses.{IsCellError, IsSeen, IsCellResponse, ReadsAs}
use Rattle.doc_model.specs.rules.Weights.{objects_written}
use Rattle.doc_model.specs.wire.WrittenElements.{numbered_bytes}
use Rattle.doc_model.specs.declared.element.NumberedElement.{NumberedElement}
use Rattle.doc_model.specs.declared.reply.Answer.{Answer}
use Rattle.doc_model.specs.declared.reply.Reply.TheVariants as replies
use Rattle.doc_model.specs.declared.reply.Submitted.{Submitted}
use Rattle.doc_model.specs.declared.reply.Submitted.TheVariants.{Answered, DiskFault, JournalFull, NoMemory}
use Rattle.data_elements.proofs.ElementStands.{element_stands}
use Rattle.data_elements.proofs.Runs.{Of, kinds_of, any_of, single, two, one_of}
use Rattle.data_elements.specs.declared.wire_fault.WireFault.TheVariants.{SchemaFault}
use Rattle.wire_responses.specs.ResponseAnswers.{IsRefusal}
use Rattle.wire_responses.specs.Seeing.{seen_answer, pulled, seen, FitsReply, FitsAnswer, element_objects_written, answer_objects_written, response_objects}
use Rattle.wire_responses.proofs.AnswerStands.{error_stands, answer_stands}
use Rattle.wire_responses.proofs.Stands.{each_made, all_runs, holder}

module _ (input : List ℕ) (n : ℕ) where
  -- ---- elements

  numbered_stands : (guid : Guid) → FitsGuid guid → (m : NumberedElement) (p : ℕ) → FitsNumbered m → At input p (numbered_bytes guid m)
      → Whole input (suc (suc (suc n))) (λ t. Of 0x01 (IsNumbered input) t m) (objects_written m.element) p (p + length (numbered_bytes guid m))
  unfolding numbered_bytes
  numbered_stands guid g m p f a =
      let w = element_stands input n m.element (Number guid m.serial) p f.1 (g, f.0) a in
      record { tree = w.tree; object = w.object; is = (w.is.0, (guid, w.is.1)); count_is = w.count_is }

  -- the elements of an answer
  abbrev Pulls : Submitted → ℕ → Type 0
  Pulls s p = Run input (suc (suc (suc n))) (Of 0x01 (IsNumbered input)) (pulled s) (sum_by (λ m. objects_written m.element) (pulled s)) p (p + length (pulled_bytes s))

  no_pull : (p : ℕ) → Run input (suc (suc (suc n))) (Of 0x01 (IsNumbered input)) [] 0 p (p + 0)
  no_pull p = record { trees = []; standing = omega arith; each = tt; count_is = refl }

  submitted_pulls : (kind : ℕ) (s : Submitted) (p : ℕ) → FitsReply kind s → At input p (pulled_bytes s) → Pulls s p
  submitted_pulls kind (Answered (replies.Pulled guid index elements known)) p f a =
      all_stand input (suc (suc (suc n))) (Of 0x01 (IsNumbered input)) FitsNumbered (numbered_bytes guid) (λ m. objects_written m.element) (numbered_stands guid f.1) elements p f.3 a
  submitted_pulls kind (Answered replies.Access) p f a = no_pull p
  submitted_pulls kind (Answered (replies.Stored known)) p f a = no_pull p
  submitted_pulls kind (Answered (replies.Drawn g first last)) p f a = no_pull p
  submitted_pulls kind (Answered (replies.Refused code)) p f a = no_pull p
  submitted_pulls kind (Answered replies.Done) p f a = absurd f
  submitted_pulls kind (Answered (replies.Locked g lock status)) p f a = absurd f
  submitted_pulls kind (Answered (replies.VersionList commits)) p f a = absurd f
  submitted_pulls kind (Answered (replies.File bytes)) p f a = absurd f
  submitted_pulls kind (Answered (replies.Lone alone)) p f a = absurd f
  submitted_pulls kind (Answered (replies.Me user)) p f a = absurd f
  submitted_pulls kind DiskFault p f a = no_pull p
  submitted_pulls kind JournalFull p f a = no_pull p
  submitted_pulls kind NoMemory p f a = no_pull p

  -- ---- the package

  package_stands : (answers : List Answer) (p : ℕ) → AllByRecursion FitsAnswer answers → At input p (pulled_package answers)
      → Whole input (suc (suc (suc (suc n)))) (λ t. Of 0x15 (IsNumberedPackage input) t (flat_map (λ a. pulled a.submitted) answers)) (1 + sum_by element_objects_written answers) p (p + length (pulled_package answers))
  unfolding pulled_package
  package_stands answers p f a =
      let x = flat_map (λ b. pulled_bytes b.submitted) answers in
      let ns = flat_map (λ b. pulled b.submitted) answers in
      let q = p + length (started 0x15 true (0 ∷ [])) in
      let r = all_runs input (suc (suc (suc n))) (Of 0x01 (IsNumbered input)) FitsAnswer (λ b. pulled b.submitted) (λ b. pulled_bytes b.submitted) element_objects_written
      (λ b m g h. submitted_pulls b.kind b.submitted m g.2 h) answers q f (inside_at input p 0x15 (0 ∷ []) x a) in
      branch input (suc (suc (suc n))) p 0x15 SpellsByte 0 (0 ∷ []) x r.trees (sum_by element_objects_written answers) (omega arith) (omega arith) refl a r.standing r.count_is (λ t. IsNumberedPackage input t ns)
      (λ t h e. ((0, h), any_of 0x01 (IsNumbered input) ns t r.trees r.trees e (filter_all 0x01 r.trees (kinds_of 0x01 (IsNumbered input) r.trees ns r.each)) r.each))

module _ (input : List ℕ) (n : ℕ) where
  -- ---- the whole

  answers_seen : (t : Tree) (answers : List Answer) → Any 0x41 (λ u a. IsSeen input u (seen_answer a)) t answers → Any 0x41 (IsSeen input) t (map seen_answer answers)
  answers_seen t answers h = each_made (IsSeen input) seen_answer (filter (is_kind 0x41) (out-Tree t).children) answers h

  pub whole_stands : (answers : List Answer) (p : ℕ) → AllByRecursion FitsAnswer answers → At input p (compound_object 0x62 (0 ∷ []) (pulled_package answers ++ flat_map sub_response answers))
      → Whole input (suc (suc (suc (suc (suc (suc n)))))) (λ t. (kind_of t ≡ 0x62) × IsCellResponse input t (seen answers)) (response_objects answers) p
      (p + length (compound_object 0x62 (0 ∷ []) (pulled_package answers ++ flat_map sub_response answers)))
  whole_stands answers p f a =
      let x = pulled_package answers in
      let y = flat_map sub_response answers in
      let ns = flat_map (λ b. pulled b.submitted) answers in
      let Says : Tree → Answer → Type 0 = λ t b. IsSeen input t (seen_answer b) in
      let q = p + length (started 0x62 true (0 ∷ [])) in
      let held = inside_at input p 0x62 (0 ∷ []) (x ++ y) a in
      let first = package_stands input (suc n) answers q f (at_front input q x y held) in
      let subs = all_stand input (suc (suc (suc (suc (suc n))))) (Of 0x41 Says) FitsAnswer sub_response answer_objects_written (answer_stands input n) answers (q + length x) f (at_back input q x y held) in
      let all = two input (suc (suc (suc (suc (suc n))))) 0x15 0x41 (IsNumberedPackage input) Says (ns ∷ []) answers (1 + sum_by element_objects_written answers) (sum_by answer_objects_written answers) q x y (λ e. omega (arith, e))
      (single input (suc (suc (suc (suc (suc n))))) (Of 0x15 (IsNumberedPackage input)) ns (1 + sum_by element_objects_written answers) q (q + length x) first) subs in
      let b = branch input (suc (suc (suc (suc (suc n))))) p 0x62 SpellsByte 0 (0 ∷ []) (x ++ y) all.trees (1 + sum_by element_objects_written answers + sum_by answer_objects_written answers) (omega arith) (omega arith) refl a all.standing all.count_is
      (λ t. HasFields true SpellsByte input t 0 × (One 0x15 (IsNumberedPackage input) t ns × Any 0x41 Says t answers))
      (λ t h e. (h, (one_of 0x15 (IsNumberedPackage input) ns t (all.first t e), all.second t e))) in
      record {
        tree = b.tree;
        object = b.object;
        is = (b.is.0, record { kind = b.is.0; fields = b.is.1.0; elements = b.is.1.1.0; answers = answers_seen b.tree answers b.is.1.1.1 });
        count_is = b.count_is;
      }

pub read_as : (answers : List Answer) → AllByRecursion FitsAnswer answers → length (seen answers).elements ≤ 8192 → response_objects answers ≤ 262144 → ReadsAs (response answers) (seen answers)
unfolding response
read_as answers f few small =
    let x = compound_object 0x62 (0 ∷ []) (pulled_package answers ++ flat_map sub_response answers) in
    let bytes = front ++ x in
    let at : At bytes 12 x = record { before = front; behind = []; input_is = ap (λ (l : List ℕ). front ++ l) (sym (append-nil x)); place = refl } in
    let w = whole_stands bytes 6 answers 12 f at in
    let end : 12 + length x ≡ length bytes = omega (arith, length-append front x) in
    record {
      versions = record { long = omega (arith, length-append front x); versions = refl };
      signature = refl;
      tree = w.tree;
      stands = record { object = subst (λ (m : ℕ). IsObject 12 bytes w.tree 12 m) end w.object; few = omega (arith, w.count_is, small) };
      form = w.is.1;
      few = few;
    }

-- The written form of a failed request is in the form of no response.
pub failed_read : (number : ℕ) → number < 2 ^ 32 → (place : ℕ) × IsRefusal (failure number) (SchemaFault place)
unfolding failure
failed_read number f =
    let x = compound_object 0x62 (1 ∷ []) (error_object number) in
    let bytes = front ++ x in
    let at : At bytes 12 x = record { before = front; behind = []; input_is = ap (λ (l : List ℕ). front ++ l) (sym (append-nil x)); place = refl } in
    let q = 12 + length (started 0x62 true (1 ∷ [])) in
    let held = error_stands bytes 9 number q f (inside_at bytes 12 0x62 (1 ∷ []) (error_object number) at) in
    let w = holder bytes 11 12 0x62 0x4D SpellsByte 1 (1 ∷ []) (error_object number) (IsCellError bytes) number 2 (omega arith) (omega arith) refl at held in
    let end : 12 + length x ≡ length bytes = omega (arith, length-append front x) in
    let stands : IsTreeAt bytes w.tree 12 (length bytes) = record { object = subst (λ (m : ℕ). IsObject 12 bytes w.tree 12 m) end w.object; few = omega (arith, w.count_is) } in (
      start_of w.tree,
      (
        record { long = omega (arith, length-append front x); versions = refl },
        refl,
        (w.tree, stands, inl (λ own. let one = w.is.1.0.fields in let zero = own.1.fields in absurd cc, refl)),
      ),
    )
