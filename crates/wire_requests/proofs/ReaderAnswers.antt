-- What the readers of elements and of knowledge answer is what reading gives.
use Rattle.std.proofs.Common.{◌≡◌, ℕ, List, [], Result, Ok, Err, ap, refl}
use Rattle.compact_values.proofs.LittleEndian.{IsBytes}
use Rattle.stream_objects.specs.declared.tree.Tree.{Tree}
use Rattle.stream_objects.specs.Parts.{IsFirstBroken}
use Rattle.stream_objects.proofs.Broken.{Judges, one_broken, none_broken}
use Rattle.doc_model.specs.wire.Elements.{IsPackage}
use Rattle.doc_model.specs.wire.Knowledges.{SaysKnowledge}
use Rattle.doc_model.specs.readers.ElementSites as elements
use Rattle.doc_model.specs.readers.KnowledgeSites as knowledges
use Rattle.doc_model.specs.declared.element.Element.{Element}
use Rattle.doc_model.specs.declared.knowledge.Knowledge.{Knowledge}
use Rattle.data_elements.specs.Answers.{IsPackageResult, IsKnowledgeResult}
use Rattle.data_elements.specs.KnowledgeReading.{knowledge_at}
use Rattle.data_elements.specs.Reading.{package_at}
use Rattle.data_elements.specs.declared.fault.ElementFault.{ElementFault}
use Rattle.data_elements.specs.declared.fault.ElementFault.TheVariants as faults
use Rattle.data_elements.proofs.ElementLaws.{judges_package, again_package}
use Rattle.data_elements.proofs.KnowledgeLaws.{judges_knowledge, again_knowledge}
use Rattle.stream_objects.specs.Gathering.{gather}
use Rattle.doc_model.specs.declared.request.WireSub.{WireSub}
use Rattle.wire_requests.specs.RequestReading.{knowledge_of, child_at, parts_at}
use Rattle.wire_requests.specs.RequestAnswers.{wire_fault, Gives, GivesElements}

-- where the first part isn't in its form, reading stops there
pub stops : {P V : Type 0} (InForm : P → Type 0) (start : P → ℕ) (Is : V → Type 0) (parts : List P) (place : ℕ) → IsFirstBroken InForm start parts place → (r : Result V ℕ) → Judges InForm start Is parts r → r ≡ Err place
stops InForm start Is parts place b (Ok v) j = absurd (none_broken InForm start parts place j.1 b)
stops InForm start Is parts place b (Err n) j = ap (λ (k : ℕ). Err k) (one_broken InForm start parts n place j b)

module _ (input : List ℕ) (fits : IsBytes input) (t : Tree) where
  -- ---- knowledge

  known_stops : (place : ℕ) → IsFirstBroken (knowledges.InOwnForm input) knowledges.site_start (knowledges.knowledge_sites input t) place → knowledge_at input t ≡ Err place
  known_stops place b = stops (knowledges.InOwnForm input) knowledges.site_start (SaysKnowledge input t) (knowledges.knowledge_sites input t) place b (knowledge_at input t) (judges_knowledge input fits t)

  pub known : (k : Knowledge) → SaysKnowledge input t k.ranges → knowledge_of (knowledge_at input t) ≡ Ok k
  known k h = ap knowledge_of (again_knowledge input fits t k.ranges h)

  pub not_known : (f : ElementFault) → IsKnowledgeResult input t (Err f) → Gives {V = Knowledge} (Err (wire_fault f)) (knowledge_of (knowledge_at input t))
  not_known (faults.SchemaFault place) a = ap knowledge_of (known_stops place a)
  not_known faults.TooMany a = absurd a
  not_known faults.NoMemory a = tt

  -- ---- elements

  package_stops : (place : ℕ) → IsFirstBroken (elements.InOwnForm input) elements.site_start (elements.package_sites input t) place → package_at input t ≡ Err place
  package_stops place b = stops (elements.InOwnForm input) elements.site_start (IsPackage input t) (elements.package_sites input t) place b (package_at input t) (judges_package input fits t)

  pub elements_are : (es : List Element) → IsPackageResult input t (Ok es) → GivesElements (Ok es) (package_at input t)
  elements_are es a = (again_package input fits t es a.0, a.1)

  pub no_elements : (f : ElementFault) → IsPackageResult input t (Err f) → GivesElements (Err (wire_fault f)) (package_at input t)
  no_elements (faults.SchemaFault place) a = package_stops place a
  no_elements faults.TooMany a = (a.0, again_package input fits t a.0 a.1, a.2)
  no_elements faults.NoMemory a = tt

-- the request of the parts
pub parts_are : (input : List ℕ) (before : List Tree) (c : Tree) (behind : List Tree) (subs all : List WireSub) (es : List Element) → gather (child_at input) [] before ≡ Ok subs → package_at input c ≡ Ok es
    → gather (child_at input) subs behind ≡ Ok all → parts_at input before c behind ≡ Ok (record { subs = all; elements = es })
parts_are input before c behind subs all es e f g = rw (e, f, g) refl
