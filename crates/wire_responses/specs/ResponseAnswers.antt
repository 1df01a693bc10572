-- What the reader of responses answers.
use Rattle.std.specs.Prelude.{◌≡◌, ◌≢◌, ◌⊎◌, ℕ, ◌<◌, ◌≤◌, List, length, Result, Ok, Err}
use Rattle.stream_objects.specs.declared.tree.Tree.{Tree}
use Rattle.stream_objects.specs.declared.fault.TreeFault.TheVariants as trees
use Rattle.stream_objects.specs.Trees.{IsTreeAt}
use Rattle.stream_objects.specs.Answers.{IsFaultAt}
use Rattle.stream_objects.specs.Parts.{IsFirstBroken}
use Rattle.doc_model.specs.wire.SeenResponses.{HasVersions, HasSignature, IsCellResponse, ReadsAs}
use Rattle.doc_model.specs.readers.ResponseSites.{InOwnForm, site_start, response_sites}
use Rattle.doc_model.specs.declared.response.CellResponse.{CellResponse}
use Rattle.data_elements.specs.declared.fault.ElementFault.{ElementFault}
use Rattle.data_elements.specs.declared.fault.ElementFault.TheVariants as elements
use Rattle.data_elements.specs.declared.wire_fault.WireFault.{WireFault}
use Rattle.data_elements.specs.declared.wire_fault.WireFault.TheVariants.{BadFront, BadSignature, TreeFault, Extra, SchemaFault, TooMany, NoMemory}
use Rattle.doc_model.specs.rules.Limits.{most_elements}

-- Each refusal comes where those before it don't.
abbrev pub IsRefusal : List ℕ → WireFault → Type 0
IsRefusal bytes BadFront = ¬ HasVersions bytes
IsRefusal bytes BadSignature = HasVersions bytes × (¬ HasSignature bytes)
IsRefusal bytes (TreeFault fault) = HasVersions bytes × HasSignature bytes × IsFaultAt bytes 12 fault × (fault ≢ trees.NoMemory)
IsRefusal bytes (Extra place) = HasVersions bytes × HasSignature bytes × (place < length bytes) × ((tree : Tree) × IsTreeAt bytes tree 12 place)
IsRefusal bytes (SchemaFault place) =
    HasVersions bytes × HasSignature bytes
    × ((tree : Tree) × IsTreeAt bytes tree 12 (length bytes) × IsFirstBroken (InOwnForm bytes) site_start (response_sites bytes tree) place)
IsRefusal bytes TooMany =
    HasVersions bytes × HasSignature bytes
    × ((tree : Tree) × IsTreeAt bytes tree 12 (length bytes) × (response : CellResponse) × IsCellResponse bytes tree response × (most_elements < length response.elements))
IsRefusal bytes NoMemory = Unit {0}

abbrev pub IsResult : List ℕ → Result CellResponse WireFault → Type 0
IsResult bytes (Ok response) = ReadsAs bytes response
IsResult bytes (Err fault) = IsRefusal bytes fault

-- Where memory doesn't run out, no other answer is one.
abbrev pub IsOnlyResult : List ℕ → Result CellResponse WireFault → Type 0
IsOnlyResult bytes answer = (other : Result CellResponse WireFault) → IsResult bytes other → other ≢ Err NoMemory → (answer ≡ Err NoMemory) ⊎ (answer ≡ other)

-- ---- the steps

-- What a step made of what was read so far is what reading gives, unless memory ran out.
abbrev pub GivesIn : Result (Unit {0}) ElementFault → CellResponse → Result CellResponse ℕ → Type 0
GivesIn (Ok u) response read = read ≡ Ok response
GivesIn (Err (elements.SchemaFault place)) response read = read ≡ Err place
GivesIn (Err elements.NoMemory) response read = Unit {0}
GivesIn (Err elements.TooMany) response read = ⊥

-- It is what reading gives, unless memory ran out.
abbrev pub GivesResponse : Result CellResponse ElementFault → Result CellResponse ℕ → Type 0
GivesResponse (Ok response) read = read ≡ Ok response
GivesResponse (Err (elements.SchemaFault place)) read = read ≡ Err place
GivesResponse (Err elements.NoMemory) read = Unit {0}
GivesResponse (Err elements.TooMany) read = ⊥

-- It is what reading gives, where there are not too many elements, unless memory ran out.
abbrev pub GivesFew : Result CellResponse WireFault → Result CellResponse ℕ → Type 0
GivesFew (Ok response) read = (read ≡ Ok response) × (length response.elements ≤ most_elements)
GivesFew (Err (SchemaFault place)) read = read ≡ Err place
GivesFew (Err TooMany) read = (response : CellResponse) × (read ≡ Ok response) × (most_elements < length response.elements)
GivesFew (Err NoMemory) read = Unit {0}
GivesFew (Err BadFront) read = ⊥
GivesFew (Err BadSignature) read = ⊥
GivesFew (Err (TreeFault fault)) read = ⊥
GivesFew (Err (Extra place)) read = ⊥
