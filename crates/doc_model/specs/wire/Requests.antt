-- The form of a request: a line an object type (MS-FSSHTTPB 2.2.2). Types are hexadecimal, kinds of sub-requests decimal.
-- "Begins" ignores what follows the named fields; without it the fields fill the object's length exactly. A child whose
-- type isn't named has no place there, and is skipped with all that it holds.
use Rattle.std.specs.Prelude.{◌≡◌, ◌≢◌, ℕ, ◌≤◌, Bool, true, false, List, [], length, filter, find, Option, Some, None}
use Rattle.compact_values.specs.Compact.{SpellsCompact}
use Rattle.compact_values.specs.Ids.{SpellsExGuid}
use Rattle.compact_values.specs.Sequences.{◌▹◌, Begins, SpellsByte}
use Rattle.compact_values.specs.declared.ids.ExGuid.{ExGuid}
use Rattle.stream_objects.specs.declared.tree.Tree.{Tree}
use Rattle.stream_objects.specs.declared.tree.Tree.TheViews.{out-Tree}
use Rattle.stream_objects.specs.Objects.{HasFields, HasOne, One, Any, kind_of, is_kind, fields_of}
use Rattle.stream_objects.specs.Trees.{IsTreeAt}
use Rattle.stream_objects.specs.declared.object_types.TheConstants.{ALLOCATE_EXTENDED_GUID_RANGE_REQUEST, DATA_ELEMENT_PACKAGE, KNOWLEDGE, PUT_CHANGES_REQUEST, QUERY_CHANGES_REQUEST, REQUEST, SUB_REQUEST}
use Rattle.doc_model.specs.wire.Elements.{IsPackage}
use Rattle.doc_model.specs.wire.Fronts.{HasVersions, HasSignature}
use Rattle.doc_model.specs.wire.Knowledges.{IsKnowledge}
use Rattle.doc_model.specs.rules.Limits.{most_elements, most_puts, most_sub_requests}
use Rattle.doc_model.specs.wire.Walks.{below}
use Rattle.doc_model.specs.declared.knowledge.Knowledge.{Knowledge}
use Rattle.doc_model.specs.declared.request.CellRequest.{CellRequest}
use Rattle.doc_model.specs.declared.request.WireSub.{WireSub}
use Rattle.doc_model.specs.declared.request.WireKind.{WireKind}
use Rattle.doc_model.specs.declared.request.WireKind.TheVariants.{Access, Pull, Put, Draw, Unknown}

-- 42, compound, sub-request: compact id, compact kind, compact priority; the rest is ignored (2.2.2.1)
abbrev pub SubRequestFields : List ℕ → Tree → ℕ → ℕ → Type 0
SubRequestFields input tree id kind = (priority : ℕ) × HasFields true (Begins (SpellsCompact ▹ SpellsCompact ▹ SpellsCompact)) input tree (id, (kind, priority))

-- 5A, put, compound or not: extended GUID index, extended GUID expected, the flag byte; the rest is ignored (2.2.2.1.4)
abbrev pub PutFields : List ℕ → Tree → ExGuid × (ExGuid × ℕ) → Type 0
PutFields input tree put = Begins (SpellsExGuid ▹ SpellsExGuid ▹ SpellsByte) put (fields_of input tree)

-- 80, allocate request: compact count, one byte; the rest is ignored
abbrev pub AllocateFields : List ℕ → Tree → ℕ → Type 0
AllocateFields input tree count = (flag : ℕ) × HasFields false (Begins (SpellsCompact ▹ SpellsByte)) input tree (count, flag)

-- The knowledge of a query is the first object of type 10 below the sub-request, wherever it stands.
abbrev pub first_knowledge : Tree → Option Tree
first_knowledge t = find (is_kind KNOWLEDGE) (below t)

-- Where there is none, nothing is known.
abbrev pub IsKnown : List ℕ → Option Tree → Knowledge → Type 0
IsKnown input (Some t) knowledge = IsKnowledge input t knowledge
IsKnown input None knowledge = knowledge.ranges ≡ []

-- What a sub-request of each kind holds: 1 nothing; 2 one 51, of which all is ignored; 5 one 5A; 11 one 80; others nothing.
abbrev pub Holds : List ℕ → Tree → ℕ → WireKind → Type 0
Holds input t kind Access = kind ≡ 1
Holds input t kind (Pull knowledge) = (kind ≡ 2) × HasOne QUERY_CHANGES_REQUEST t × IsKnown input (first_knowledge t) knowledge
Holds input t kind (Put index expected flags) = (kind ≡ 5) × One PUT_CHANGES_REQUEST (PutFields input) t (index, (expected, flags))
Holds input t kind (Draw count) = (kind ≡ 11) × One ALLOCATE_EXTENDED_GUID_RANGE_REQUEST (AllocateFields input) t count
Holds input t kind Unknown = (kind ≢ 1) × (kind ≢ 2) × (kind ≢ 5) × (kind ≢ 11)

abbrev pub IsSub : List ℕ → Tree → WireSub → Type 0
IsSub input t sub = SubRequestFields input t sub.id sub.kind × Holds input t sub.kind sub.what

abbrev pub is_put : WireKind → Bool
is_put Access = false
is_put (Pull knowledge) = false
is_put (Put index expected flags) = true
is_put (Draw count) = false
is_put Unknown = false

-- how many of them are puts
abbrev pub puts_in : List WireSub → ℕ
puts_in subs = length (filter (λ s. is_put s.what) subs)

-- 40, compound, request: all fields are ignored; any number of 42, up to 64 and of these up to 4 puts, and exactly one 15
pub record SaysRequest (input : List ℕ) (tree : Tree) (request : CellRequest) : Type 0 where
  pub kind : kind_of tree ≡ REQUEST
  pub mark : (out-Tree tree).compound ≡ true
  pub subs : Any SUB_REQUEST (IsSub input) tree request.subs
  pub few_subs : length request.subs ≤ most_sub_requests
  pub few_puts : puts_in request.subs ≤ most_puts
  pub one_package : One DATA_ELEMENT_PACKAGE (IsPackage input) tree request.elements

-- The bytes are a request: the front, a tree in the form of a request with at most 8,192 elements, and nothing more.
pub record IsRequest (bytes : List ℕ) (request : CellRequest) : Type 0 where
  pub versions : HasVersions bytes
  pub signature : HasSignature bytes
  pub tree : Tree
  pub stands : IsTreeAt bytes tree 12 (length bytes)
  pub form : SaysRequest bytes tree request
  pub few_elements : length request.elements ≤ most_elements
