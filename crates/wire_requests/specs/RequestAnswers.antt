-- What the reader of requests answers.
use Rattle.std.specs.Prelude.{◌≡◌, ◌≢◌, ◌⊎◌, ℕ, ◌<◌, ◌≤◌, List, length, Result, Ok, Err}
use Rattle.stream_objects.specs.declared.tree.Tree.{Tree}
use Rattle.stream_objects.specs.declared.fault.TreeFault.TheVariants as trees
use Rattle.stream_objects.specs.Trees.{IsTreeAt}
use Rattle.stream_objects.specs.Answers.{IsFaultAt}
use Rattle.stream_objects.specs.Parts.{IsFirstBroken}
use Rattle.doc_model.specs.wire.Fronts.{HasVersions, HasSignature}
use Rattle.doc_model.specs.wire.Requests.{SaysRequest, IsRequest}
use Rattle.doc_model.specs.readers.RequestSites.{InOwnForm, site_start, request_sites}
use Rattle.doc_model.specs.declared.element.Element.{Element}
use Rattle.doc_model.specs.declared.request.CellRequest.{CellRequest}
use Rattle.data_elements.specs.declared.fault.ElementFault.{ElementFault}
use Rattle.data_elements.specs.declared.fault.ElementFault.TheVariants as elements
use Rattle.data_elements.specs.declared.wire_fault.WireFault.{WireFault}
use Rattle.data_elements.specs.declared.wire_fault.WireFault.TheVariants.{BadFront, BadSignature, TreeFault, Extra, SchemaFault, TooMany, NoMemory}
use Rattle.doc_model.specs.rules.Limits.{most_elements}

-- The front is that of a request, and a tree follows it and nothing more.
pub record IsFramed (bytes : List ℕ) (tree : Tree) : Type 0 where
  pub versions : HasVersions bytes
  pub signature : HasSignature bytes
  pub stands : IsTreeAt bytes tree 12 (length bytes)

-- Each refusal comes where those before it don't.
abbrev pub IsRefusal : List ℕ → WireFault → Type 0
IsRefusal bytes BadFront = ¬ HasVersions bytes
IsRefusal bytes BadSignature = HasVersions bytes × (¬ HasSignature bytes)
IsRefusal bytes (TreeFault fault) = HasVersions bytes × HasSignature bytes × IsFaultAt bytes 12 fault × (fault ≢ trees.NoMemory)
IsRefusal bytes (Extra place) = HasVersions bytes × HasSignature bytes × (place < length bytes) × ((tree : Tree) × IsTreeAt bytes tree 12 place)
IsRefusal bytes (SchemaFault place) = (tree : Tree) × IsFramed bytes tree × IsFirstBroken (InOwnForm bytes) site_start (request_sites bytes tree) place
IsRefusal bytes TooMany = (tree : Tree) × IsFramed bytes tree × ((request : CellRequest) × SaysRequest bytes tree request × (most_elements < length request.elements))
IsRefusal bytes NoMemory = Unit {0}

abbrev pub IsResult : List ℕ → Result CellRequest WireFault → Type 0
IsResult bytes (Ok request) = IsRequest bytes request
IsResult bytes (Err fault) = IsRefusal bytes fault

-- Where memory doesn't run out, no other answer is one.
abbrev pub IsOnlyResult : List ℕ → Result CellRequest WireFault → Type 0
IsOnlyResult bytes answer = (other : Result CellRequest WireFault) → IsResult bytes other → other ≢ Err NoMemory → (answer ≡ Err NoMemory) ⊎ (answer ≡ other)

-- ---- the steps

-- the fault of a request whose elements or knowledge have this one
abbrev pub wire_fault : ElementFault → WireFault
wire_fault (elements.SchemaFault place) = SchemaFault place
wire_fault elements.TooMany = TooMany
wire_fault elements.NoMemory = NoMemory

-- It is what reading gives, unless memory ran out.
abbrev pub Gives : {V : Type 0} → Result V WireFault → Result V ℕ → Type 0
Gives (Ok v) read = read ≡ Ok v
Gives (Err (SchemaFault place)) read = read ≡ Err place
Gives (Err NoMemory) read = Unit {0}
Gives (Err TooMany) read = ⊥
Gives (Err BadFront) read = ⊥
Gives (Err BadSignature) read = ⊥
Gives (Err (TreeFault fault)) read = ⊥
Gives (Err (Extra place)) read = ⊥

-- What a step made of the values so far is what reading gives, unless memory ran out.
abbrev pub GivesTo : {V : Type 0} → Result (Unit {0}) WireFault → List V → Result (List V) ℕ → Type 0
GivesTo (Ok u) values read = read ≡ Ok values
GivesTo (Err (SchemaFault place)) values read = read ≡ Err place
GivesTo (Err NoMemory) values read = Unit {0}
GivesTo (Err TooMany) values read = ⊥
GivesTo (Err BadFront) values read = ⊥
GivesTo (Err BadSignature) values read = ⊥
GivesTo (Err (TreeFault fault)) values read = ⊥
GivesTo (Err (Extra place)) values read = ⊥

-- The same for what has elements, which may be too many.
abbrev pub GivesFew : {V : Type 0} → (V → List Element) → Result V WireFault → Result V ℕ → Type 0
GivesFew elements_of (Ok v) read = (read ≡ Ok v) × (length (elements_of v) ≤ most_elements)
GivesFew {V} elements_of (Err TooMany) read = (v : V) × (read ≡ Ok v) × (most_elements < length (elements_of v))
GivesFew elements_of (Err (SchemaFault place)) read = read ≡ Err place
GivesFew elements_of (Err NoMemory) read = Unit {0}
GivesFew elements_of (Err BadFront) read = ⊥
GivesFew elements_of (Err BadSignature) read = ⊥
GivesFew elements_of (Err (TreeFault fault)) read = ⊥
GivesFew elements_of (Err (Extra place)) read = ⊥

abbrev pub GivesElements : Result (List Element) WireFault → Result (List Element) ℕ → Type 0
GivesElements result read = GivesFew (λ elements. elements) result read

abbrev pub GivesRequest : Result CellRequest WireFault → Result CellRequest ℕ → Type 0
GivesRequest result read = GivesFew (λ r. r.elements) result read
