-- Knowledge has one answer, where memory doesn't run out.
use Rattle.std.proofs.Common.{◌≡◌, ◌≢◌, ℕ, List, Result, Ok, Err, inl, inr, refl, ap, subst}
use Rattle.compact_values.proofs.LittleEndian.{IsBytes}
use Rattle.stream_objects.specs.declared.tree.Tree.{Tree}
use Rattle.stream_objects.specs.Parts.{IsFirstBroken}
use Rattle.stream_objects.proofs.Broken.{Judges, one_broken, none_broken}
use Rattle.doc_model.specs.wire.Knowledges.{SaysKnowledge}
use Rattle.doc_model.specs.readers.KnowledgeSites.{InOwnForm, site_start, knowledge_sites}
use Rattle.doc_model.specs.declared.knowledge.Knowledge.{Knowledge}
use Rattle.doc_model.specs.declared.knowledge.Range.{Range}
use Rattle.data_elements.specs.Answers.{Gives, IsKnowledgeResult, IsOnly}
use Rattle.data_elements.specs.KnowledgeReading.{knowledge_at}
use Rattle.data_elements.specs.declared.fault.ElementFault.{ElementFault}
use Rattle.data_elements.specs.declared.fault.ElementFault.TheVariants as faults
use Rattle.data_elements.proofs.KnowledgeLaws.{judges_knowledge, again_knowledge}

module _ (input : List ℕ) (fits : IsBytes input) (t : Tree) where
  abbrev J : Result (List Range) ℕ → Type 0
  J = Judges (InOwnForm input) site_start (SaysKnowledge input t) (knowledge_sites input t)

  pub knowledge_is : (ranges : List Range) → knowledge_at input t ≡ Ok ranges → SaysKnowledge input t ranges
  knowledge_is ranges e = go (knowledge_at input t) e (judges_knowledge input fits t) where
    go : (r : Result (List Range) ℕ) → r ≡ Ok ranges → J r → SaysKnowledge input t ranges
    go (Ok x) e j = let same : x ≡ ranges = cc in subst (SaysKnowledge input t) same j.0
    go (Err p) e j = absurd cc

  broken_is : (place : ℕ) → knowledge_at input t ≡ Err place → IsFirstBroken (InOwnForm input) site_start (knowledge_sites input t) place
  broken_is place e = go (knowledge_at input t) e (judges_knowledge input fits t) where
    go : (r : Result (List Range) ℕ) → r ≡ Err place → J r → IsFirstBroken (InOwnForm input) site_start (knowledge_sites input t) place
    go (Ok x) e j = absurd cc
    go (Err p) e j = let same : p ≡ place = cc in subst (IsFirstBroken (InOwnForm input) site_start (knowledge_sites input t)) same j

  pub no_knowledge : (f : ElementFault) → Gives {V = List Range} (Err f) (knowledge_at input t) → IsKnowledgeResult input t (Err f)
  no_knowledge (faults.SchemaFault place) g = broken_is place g
  no_knowledge faults.NoMemory g = tt
  no_knowledge faults.TooMany g = absurd g

  same_knowledge : (x y : Knowledge) → SaysKnowledge input t x.ranges → SaysKnowledge input t y.ranges → x ≡ y
  same_knowledge x y p q =
      let a = again_knowledge input fits t x.ranges p in
      let b = again_knowledge input fits t y.ranges q in
      let same : x.ranges ≡ y.ranges = cc in
      ap (λ (l : List Range). record { ranges = l }) same

  form_or_broken : (x : Knowledge) (place : ℕ) → SaysKnowledge input t x.ranges → IsFirstBroken (InOwnForm input) site_start (knowledge_sites input t) place → ⊥
  form_or_broken x place p b = go (knowledge_at input t) (again_knowledge input fits t x.ranges p) (judges_knowledge input fits t) where
    go : (r : Result (List Range) ℕ) → r ≡ Ok x.ranges → J r → ⊥
    go (Ok y) e j = none_broken (InOwnForm input) site_start (knowledge_sites input t) place j.1 b
    go (Err n) e j = absurd cc

  one_of_two : (x y : Result Knowledge ElementFault) → IsKnowledgeResult input t x → IsKnowledgeResult input t y → x ≢ Err faults.NoMemory → y ≢ Err faults.NoMemory → x ≡ y
  one_of_two (Err faults.NoMemory) y p q a b = absurd (a refl)
  one_of_two (Err faults.TooMany) y p q a b = absurd p
  one_of_two x (Err faults.NoMemory) p q a b = absurd (b refl)
  one_of_two x (Err faults.TooMany) p q a b = absurd q
  one_of_two (Ok d) (Ok e) p q a b = ap (λ (l : Knowledge). Ok l) (same_knowledge d e p q)
  one_of_two (Ok d) (Err (faults.SchemaFault n)) p q a b = absurd (form_or_broken d n p q)
  one_of_two (Err (faults.SchemaFault m)) (Ok e) p q a b = absurd (form_or_broken e m q p)
  one_of_two (Err (faults.SchemaFault m)) (Err (faults.SchemaFault n)) p q a b = ap (λ (k : ℕ). Err (faults.SchemaFault k)) (one_broken (InOwnForm input) site_start (knowledge_sites input t) m n p q)

  pub only_knowledge : (x : Result Knowledge ElementFault) → IsKnowledgeResult input t x → IsOnly (IsKnowledgeResult input t) x
  only_knowledge (Err faults.NoMemory) p other q some = inl refl
  only_knowledge x p other q some = inr (one_of_two x other p q (λ e. absurd cc) some)
