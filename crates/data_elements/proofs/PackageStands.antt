-- The written form of a package stands as a package of its elements, and that of knowledge as what it says.
use Rattle.std.proofs.Common.{◌≡◌, ℕ, suc, ◌+◌, true, List, [], ◌∷◌, length, map, refl, sym, ap, subst, ◌∙◌, arith}
use Rattle.std.specs.Prelude.{filter}
use Rattle.std.specs.List.{flat_map, sum_by, AllByRecursion}
use Rattle.std.proofs.lemmas.List.{append-nil}
use Rattle.compact_values.specs.Ids.{FitsGuid, SpellsGuid}
use Rattle.compact_values.specs.GuidBytes.{guid_bytes}
use Rattle.compact_values.specs.Sequences.{SpellsByte}
use Rattle.compact_values.specs.declared.guid.Guid.{Guid}
use Rattle.compact_values.specs.declared.ids.Serial.TheVariants.{Number}
use Rattle.stream_objects.specs.Gathering.{Gathers}
use Rattle.stream_objects.specs.Objects.{One, Each, kind_of, is_kind}
use Rattle.stream_objects.specs.Written.{started}
use Rattle.stream_objects.specs.declared.tree.Tree.{Tree}
use Rattle.stream_objects.specs.declared.tree.Tree.TheViews.{out-Tree}
use Rattle.stream_objects.proofs.Standing.{At, inside_at, Whole, all_stand, branch, objects-one, ones, filter_all}
use Rattle.doc_model.specs.wire.ElementObjects.{IsNothing}
use Rattle.doc_model.specs.wire.Elements.{IsElement, IsPackage}
use Rattle.doc_model.specs.wire.Knowledges.{cell_knowledge, RangeFields, SpecializedFields, AddsRanges, SaysCells, AddsCells, IsKnowledge}
use Rattle.doc_model.specs.wire.FittingElements.{FitsNumbered, FitsRange}
use Rattle.doc_model.specs.rules.Weights.{objects_written, package_objects}
use Rattle.doc_model.specs.wire.WrittenElements.{numbered_bytes, package_bytes, range_bytes, ranges_bytes, cell_knowledge_bytes, knowledge_bytes}
use Rattle.doc_model.specs.declared.element.Element.{Element}
use Rattle.doc_model.specs.declared.element.NumberedElement.{NumberedElement}
use Rattle.doc_model.specs.declared.knowledge.Range.{Range}
use Rattle.doc_model.specs.declared.knowledge.Knowledge.{Knowledge}
use Rattle.data_elements.proofs.ElementStands.{element_stands}
use Rattle.data_elements.proofs.ObjectsStand.{range_stands}
use Rattle.data_elements.proofs.Runs.{Of, kinds_of, any_of}

-- of the elements without their numbers
each_element : (P : Tree → Element → Type 0) (ts : List Tree) (ns : List NumberedElement) → Each (λ t m. P t m.element) ts ns → Each P ts (map (λ m. m.element) ns)
each_element P [] [] e = tt
each_element P (t ∷ ts) (m ∷ ns) e = (e.0, each_element P ts ns e.1)
each_element P [] (m ∷ ns) e = e
each_element P (t ∷ ts) [] e = e

module _ (input : List ℕ) (n : ℕ) where
  numbered_stands : (guid : Guid) → FitsGuid guid → (m : NumberedElement) (p : ℕ) → FitsNumbered m → At input p (numbered_bytes guid m)
      → Whole input (suc (suc (suc n))) (λ t. Of 0x01 (λ u k. IsElement input u k.element) t m) (objects_written m.element) p (p + length (numbered_bytes guid m))
  unfolding numbered_bytes
  numbered_stands guid g m p f a =
      let s = Number guid m.serial in
      let w = element_stands input n m.element s p f.1 (g, f.0) a in
      record { tree = w.tree; object = w.object; is = (w.is.0, (s, w.is.1)); count_is = w.count_is }

  pub package_stands : (guid : Guid) (ns : List NumberedElement) (p : ℕ) → FitsGuid guid → AllByRecursion FitsNumbered ns → At input p (package_bytes guid ns)
      → Whole input (suc (suc (suc (suc n)))) (λ t. (kind_of t ≡ 0x15) × IsPackage input t (map (λ m. m.element) ns)) (package_objects ns) p (p + length (package_bytes guid ns))
  unfolding package_bytes
  package_stands guid ns p g f a =
      let Says : Tree → NumberedElement → Type 0 = λ t m. IsElement input t m.element in
      let x = flat_map (numbered_bytes guid) ns in
      let q = p + length (started 0x15 true (0 ∷ [])) in
      let r = all_stand input (suc (suc (suc n))) (Of 0x01 Says) FitsNumbered (numbered_bytes guid) (λ m. objects_written m.element) (numbered_stands guid g) ns q f (inside_at input p 0x15 (0 ∷ []) x a) in
      branch input (suc (suc (suc n))) p 0x15 SpellsByte 0 (0 ∷ []) x r.trees (sum_by (λ m. objects_written m.element) ns) (omega arith) (omega arith) refl a r.standing r.count_is (λ t. IsPackage input t (map (λ m. m.element) ns))
      (
      λ t h e. (
        (0, h),
        each_element (IsElement input) (filter (is_kind 0x01) (out-Tree t).children) ns (any_of 0x01 Says ns t r.trees r.trees e (filter_all 0x01 r.trees (kinds_of 0x01 Says r.trees ns r.each)) r.each),
      )
      )

  -- ---- knowledge

  gathers_ranges : (ts : List Tree) (rs : List Range) → Each (Of 0x0F (RangeFields input)) ts rs → Gathers (AddsRanges input) ts rs
  gathers_ranges [] [] e = refl
  gathers_ranges (t ∷ ts) (r ∷ rs) e =
      let adds : AddsRanges input t (r ∷ []) = record {
        range = λ k. (r, e.0.1, refl);
        entry = λ k. absurd (omega (arith, k, e.0.0));
        other = λ k l. absurd (k e.0.0);
      } in
      (r ∷ [], rs, adds, gathers_ranges ts rs e.1, refl)
  gathers_ranges [] (r ∷ rs) e = absurd e
  gathers_ranges (t ∷ ts) [] e = absurd e

  ranges_stand : (rs : List Range) (p : ℕ) → AllByRecursion FitsRange rs → At input p (ranges_bytes rs)
      → Whole input (suc (suc n)) (λ t. (kind_of t ≡ 0x14) × SaysCells input t rs) (1 + length rs) p (p + length (ranges_bytes rs))
  unfolding ranges_bytes
  ranges_stand rs p f a =
      let x = flat_map range_bytes rs in
      let q = p + length (started 0x14 true []) in
      let r = all_stand input (suc n) (Of 0x0F (RangeFields input)) FitsRange range_bytes (λ v. 1) (range_stands input n) rs q f (inside_at input p 0x14 [] x a) in
      branch input (suc n) p 0x14 IsNothing tt [] x r.trees (length rs) (omega arith) (omega arith) refl a r.standing (r.count_is ∙ ones rs) (λ t. SaysCells input t rs)
      (λ t h e. (h, subst (λ (l : List Tree). Gathers (AddsRanges input) l rs) (sym e) (gathers_ranges r.trees rs r.each)))

  abbrev the_guid : Guid
  the_guid = record { number = cell_knowledge }

  cell_knowledge_stands : (rs : List Range) (p : ℕ) → AllByRecursion FitsRange rs → At input p (cell_knowledge_bytes rs)
      → Whole input (suc (suc (suc n))) (λ t. (kind_of t ≡ 0x44) × (SpecializedFields input t the_guid × One 0x14 (SaysCells input) t rs)) (1 + (1 + length rs)) p (p + length (cell_knowledge_bytes rs))
  unfolding cell_knowledge_bytes
  cell_knowledge_stands rs p f a =
      let fields = guid_bytes cell_knowledge in
      let x = ranges_bytes rs in
      let q = p + length (started 0x44 true fields) in
      let w = ranges_stand rs q f (inside_at input p 0x44 fields x a) in
      branch input (suc (suc n)) p 0x44 SpellsGuid the_guid fields x (w.tree ∷ []) (1 + length rs) (omega arith) (omega arith) (record { range = omega arith; bytes_are = refl }) a (q + length x, w.object, refl)
      (objects-one w.tree ∙ w.count_is) (λ t. SpecializedFields input t the_guid × One 0x14 (SaysCells input) t rs)
      (λ t h e. (h, (w.tree, ap (filter (is_kind 0x14)) e ∙ filter_all 0x14 (w.tree ∷ []) (w.is.0, tt), w.is.1)))

  pub knowledge_stands : (k : Knowledge) (p : ℕ) → AllByRecursion FitsRange k.ranges → At input p (knowledge_bytes k)
      → Whole input (suc (suc (suc (suc n)))) (λ t. (kind_of t ≡ 0x10) × IsKnowledge input t k) (3 + length k.ranges) p (p + length (knowledge_bytes k))
  unfolding knowledge_bytes
  knowledge_stands k p f a =
      let rs = k.ranges in
      let x = cell_knowledge_bytes rs in
      let q = p + length (started 0x10 true []) in
      let w = cell_knowledge_stands rs q f (inside_at input p 0x10 [] x a) in
      let adds : AddsCells input w.tree rs = record {
        specialized = λ e. (the_guid, w.is.1.0, (λ d. w.is.1.1), (λ d. absurd (d refl)));
        other = λ d. absurd (d w.is.0);
      } in
      let gathers : Gathers (AddsCells input) (w.tree ∷ []) rs = (rs, [], adds, refl, sym (append-nil rs)) in
      let b = branch input (suc (suc (suc n))) p 0x10 IsNothing tt [] x (w.tree ∷ []) (1 + (1 + length rs)) (omega arith) (omega arith) refl a (q + length x, w.object, refl)
      (objects-one w.tree ∙ w.count_is) (λ t. IsKnowledge input t k)
      (λ t h e. (h, subst (λ (l : List Tree). Gathers (AddsCells input) l rs) (sym e) gathers)) in
      record { tree = b.tree; object = b.object; is = b.is; count_is = omega (arith, b.count_is) }
