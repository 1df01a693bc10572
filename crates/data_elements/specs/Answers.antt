-- What the readers answer.
use Rattle.std.specs.Prelude.{◌≡◌, ◌≢◌, ◌⊎◌, ◌<◌, ◌≤◌, ℕ, List, length, Option, Some, None, Result, Ok, Err}
use Rattle.stream_objects.specs.declared.tree.Tree.{Tree}
use Rattle.stream_objects.specs.Parts.{IsFirstBroken}
use Rattle.doc_model.specs.wire.Elements.{IsPackage}
use Rattle.doc_model.specs.readers.ElementSites as elements
use Rattle.doc_model.specs.wire.Knowledges.{IsKnowledge}
use Rattle.doc_model.specs.readers.KnowledgeSites as knowledges
use Rattle.doc_model.specs.wire.NumberedElements.{IsNumberedPackage}
use Rattle.doc_model.specs.readers.NumberedSites as numbered
use Rattle.doc_model.specs.declared.element.Element.{Element}
use Rattle.doc_model.specs.declared.element.NumberedElement.{NumberedElement}
use Rattle.doc_model.specs.declared.knowledge.Knowledge.{Knowledge}
use Rattle.data_elements.specs.declared.fault.ElementFault.{ElementFault}
use Rattle.data_elements.specs.declared.fault.ElementFault.TheVariants.{SchemaFault, TooMany, NoMemory}
use Rattle.doc_model.specs.rules.Limits.{most_elements}

-- The elements of a package in form, at most 8,192; or where the fields of the first object start that isn't in its
-- form; or all objects are in form and there are more elements.
abbrev pub IsPackageResult : List ℕ → Tree → Result (List Element) ElementFault → Type 0
IsPackageResult input tree (Ok elements) = IsPackage input tree elements × (length elements ≤ most_elements)
IsPackageResult input tree (Err (SchemaFault place)) = IsFirstBroken (elements.InOwnForm input) elements.site_start (elements.package_sites input tree) place
IsPackageResult input tree (Err TooMany) = (elements : List Element) × IsPackage input tree elements × (most_elements < length elements)
IsPackageResult input tree (Err NoMemory) = Unit {0}

-- The knowledge; or where the fields of the first object start that isn't in its form.
abbrev pub IsKnowledgeResult : List ℕ → Tree → Result Knowledge ElementFault → Type 0
IsKnowledgeResult input tree (Ok knowledge) = IsKnowledge input tree knowledge
IsKnowledgeResult input tree (Err (SchemaFault place)) = IsFirstBroken (knowledges.InOwnForm input) knowledges.site_start (knowledges.knowledge_sites input tree) place
IsKnowledgeResult input tree (Err TooMany) = ⊥
IsKnowledgeResult input tree (Err NoMemory) = Unit {0}

-- The elements of a package whose serial numbers aren't null, with the values of these; or where the fields of the first object
-- start that isn't in its form.
abbrev pub IsNumberedResult : List ℕ → Tree → Result (List NumberedElement) ElementFault → Type 0
IsNumberedResult input tree (Ok ns) = IsNumberedPackage input tree ns
IsNumberedResult input tree (Err (SchemaFault place)) = IsFirstBroken (numbered.InOwnForm input) elements.site_start (elements.package_sites input tree) place
IsNumberedResult input tree (Err TooMany) = ⊥
IsNumberedResult input tree (Err NoMemory) = Unit {0}

-- Unless memory ran out, it is the only answer of its kind.
abbrev pub IsOnly : {V : Type 0} → (Result V ElementFault → Type 0) → Result V ElementFault → Type 0
IsOnly {V} IsResult answer = (other : Result V ElementFault) → IsResult other → other ≢ Err NoMemory → (answer ≡ Err NoMemory) ⊎ (answer ≡ other)

-- ---- the steps

-- It is what reading gives, unless memory ran out.
abbrev pub Gives : {V : Type 0} → Result V ElementFault → Result V ℕ → Type 0
Gives (Ok v) read = read ≡ Ok v
Gives (Err (SchemaFault place)) read = read ≡ Err place
Gives (Err NoMemory) read = Unit {0}
Gives (Err TooMany) read = ⊥

-- What a step made of the values so far is what reading gives, unless memory ran out.
abbrev pub GivesTo : {V : Type 0} → Result (Unit {0}) ElementFault → List V → Result (List V) ℕ → Type 0
GivesTo (Ok u) values read = read ≡ Ok values
GivesTo (Err (SchemaFault place)) values read = read ≡ Err place
GivesTo (Err NoMemory) values read = Unit {0}
GivesTo (Err TooMany) values read = ⊥

-- It found no fault, or the first one, unless memory ran out.
abbrev pub Passes : Result (Unit {0}) ElementFault → Option ℕ → Type 0
Passes (Ok u) fault = fault ≡ None
Passes (Err (SchemaFault place)) fault = fault ≡ Some place
Passes (Err NoMemory) fault = Unit {0}
Passes (Err TooMany) fault = ⊥
