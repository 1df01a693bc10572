-- The objects of a response that have a place in it, in reading order, and the form that each has for itself: whether an
-- object is in its own form doesn't depend on the forms of its children, only on which of them are there.
use Rattle.std.specs.Prelude.{◌≡◌, ℕ, Bool, true, false, List, [], ◌∷◌, ◌++◌, map, Option, Some, None, option_and_then, if◌then◌else◌}
use Rattle.std.specs.List.{flat_map}
use Rattle.compact_values.specs.Sequences.{SpellsByte}
use Rattle.compact_values.specs.Taking.{take_compact, take_byte, take_both, if_all}
use Rattle.compact_values.specs.declared.guid.Guid.{Guid}
use Rattle.compact_values.specs.declared.ids.ExGuid.{ExGuid}
use Rattle.stream_objects.specs.declared.tree.Tree.{Tree}
use Rattle.stream_objects.specs.declared.tree.Tree.TheViews.{out-Tree}
use Rattle.stream_objects.specs.Objects.{HasFields, HasOne, kind_of, is_kind, start_of, children_of}
use Rattle.stream_objects.specs.ObjectFields.{compound_fields}
use Rattle.stream_objects.specs.declared.object_types.TheConstants.{ALLOCATE_EXTENDED_GUID_RANGE_RESPONSE, CELL_ERROR, DATA_ELEMENT_PACKAGE, HRESULT_ERROR, KNOWLEDGE, QUERY_CHANGES_RESPONSE, READ_ACCESS_RESPONSE, RESPONSE, RESPONSE_ERROR, SUB_RESPONSE, WRITE_ACCESS_RESPONSE}
use Rattle.doc_model.specs.wire.ElementObjects.{NoFields}
use Rattle.doc_model.specs.readers.ElementSites as elements
use Rattle.doc_model.specs.readers.KnowledgeSites as knowledges
use Rattle.doc_model.specs.readers.NumberedSites as numbered
use Rattle.doc_model.specs.wire.SeenResponses.{cell_error, hresult_error, ErrorNumber, ErrorFields, QueryFields, AllocateFields, SubResponseFields, reply_form}
use Rattle.doc_model.specs.declared.response.ReplyForm.{ReplyForm}
use Rattle.doc_model.specs.declared.response.ReplyForm.TheVariants.{Failed, Access, Pulled, Stored, Drawn}

-- a 62, a part of its package, a 41; in a failed 41 a 4D and a 66; in an answer of access a 43 or 46, a 4D and a 52; a 5F, a part
-- of knowledge, an 81
pub data Site : Type 0 where
  response : Tree → Site
  packed : elements.Site → Site
  sub_response : Tree → Site
  failure : Tree → Site
  failure_number : Tree → Site
  access : Tree → Site
  success : Tree → Site
  success_number : Tree → Site
  query : Tree → Site
  known : knowledges.Site → Site
  allocate : Tree → Site

-- what a sub-response of this form holds
abbrev pub HasPlaces : ReplyForm → Tree → Type 0
HasPlaces Failed t = HasOne RESPONSE_ERROR t
HasPlaces Access t = HasOne READ_ACCESS_RESPONSE t × HasOne WRITE_ACCESS_RESPONSE t
HasPlaces Pulled t = HasOne QUERY_CHANGES_RESPONSE t × HasOne KNOWLEDGE t
HasPlaces Stored t = HasOne KNOWLEDGE t
HasPlaces Drawn t = HasOne ALLOCATE_EXTENDED_GUID_RANGE_RESPONSE t

-- The object is in its form, whatever its children are for themselves.
abbrev pub InOwnForm : List ℕ → Site → Type 0
InOwnForm input (response t) = (kind_of t ≡ RESPONSE) × HasFields true SpellsByte input t 0 × HasOne DATA_ELEMENT_PACKAGE t
InOwnForm input (packed p) = numbered.InOwnForm input p
InOwnForm input (sub_response t) = (id : ℕ) × (kind : ℕ) × (status : ℕ) × SubResponseFields input t id kind status × (form : ReplyForm) × (reply_form kind status ≡ Some form) × HasPlaces form t
InOwnForm input (failure t) = ErrorFields input t cell_error × HasOne CELL_ERROR t
InOwnForm input (failure_number t) = (number : ℕ) × ErrorNumber input t number
InOwnForm input (access t) = NoFields input t × HasOne RESPONSE_ERROR t
InOwnForm input (success t) = ErrorFields input t hresult_error × HasOne HRESULT_ERROR t
InOwnForm input (success_number t) = ErrorNumber input t 0
InOwnForm input (query t) = (index : ExGuid) × QueryFields input t index
InOwnForm input (known p) = knowledges.InOwnForm input p
InOwnForm input (allocate t) = (numbers : Guid × (ℕ × ℕ)) × AllocateFields input t numbers

-- where its fields start
abbrev pub site_start : Site → ℕ
site_start (response t) = start_of t
site_start (packed p) = elements.site_start p
site_start (sub_response t) = start_of t
site_start (failure t) = start_of t
site_start (failure_number t) = start_of t
site_start (access t) = start_of t
site_start (success t) = start_of t
site_start (success_number t) = start_of t
site_start (query t) = start_of t
site_start (known p) = knowledges.site_start p
site_start (allocate t) = start_of t

-- ---- reading order

abbrev pub failure_sites : Tree → List Site
failure_sites t = failure t ∷ flat_map (λ c. failure_number c ∷ []) (children_of CELL_ERROR t)

abbrev pub success_sites : Tree → List Site
success_sites t = success t ∷ flat_map (λ c. success_number c ∷ []) (children_of HRESULT_ERROR t)

abbrev pub access_sites : Tree → List Site
access_sites t = access t ∷ flat_map success_sites (children_of RESPONSE_ERROR t)

abbrev pub known_sites : List ℕ → Tree → List Site
known_sites input t = map known (knowledges.knowledge_sites input t)

-- whether an object of the one type stands before those of the other
abbrev pub comes_first : ℕ → ℕ → List Tree → Bool
comes_first one other [] = true
comes_first one other (t ∷ ts) = if is_kind one t then true else if is_kind other t then false else comes_first one other ts

-- the parts of two children, in the order in which these stand
abbrev pub in_order : Bool → List Site → List Site → List Site
in_order first one other = if first then one ++ other else other ++ one

abbrev pub reply_sites : List ℕ → Tree → ReplyForm → List Site
reply_sites input t Failed = flat_map failure_sites (children_of RESPONSE_ERROR t)
reply_sites input t Access = in_order (comes_first READ_ACCESS_RESPONSE WRITE_ACCESS_RESPONSE (out-Tree t).children) (flat_map access_sites (children_of READ_ACCESS_RESPONSE t)) (flat_map access_sites (children_of WRITE_ACCESS_RESPONSE t))
reply_sites input t Pulled = in_order (comes_first QUERY_CHANGES_RESPONSE KNOWLEDGE (out-Tree t).children) (flat_map (λ c. query c ∷ []) (children_of QUERY_CHANGES_RESPONSE t)) (flat_map (known_sites input) (children_of KNOWLEDGE t))
reply_sites input t Stored = flat_map (known_sites input) (children_of KNOWLEDGE t)
reply_sites input t Drawn = flat_map (λ c. allocate c ∷ []) (children_of ALLOCATE_EXTENDED_GUID_RANGE_RESPONSE t)

-- the fields of a sub-response, where it has them
abbrev pub sub_row : List ℕ → Tree → Option (ℕ × (ℕ × ℕ))
sub_row input t = option_and_then (λ b. if_all (take_both take_compact (take_both take_compact take_byte) b)) (compound_fields input t)

-- Where a sub-response has its fields, they tell which of its children have a place.
abbrev pub sites_by : List ℕ → Tree → Option ReplyForm → List Site
sites_by input t (Some form) = reply_sites input t form
sites_by input t None = []

abbrev pub sites_behind : List ℕ → Tree → Option (ℕ × (ℕ × ℕ)) → List Site
sites_behind input t (Some fields) = sites_by input t (reply_form fields.1.0 fields.1.1)
sites_behind input t None = []

abbrev pub sub_sites : List ℕ → Tree → List Site
sub_sites input t = sub_response t ∷ sites_behind input t (sub_row input t)

abbrev pub child_sites : List ℕ → Tree → List Site
child_sites input t =
    if is_kind SUB_RESPONSE t then sub_sites input t
    else if is_kind DATA_ELEMENT_PACKAGE t then map packed (elements.package_sites input t)
    else []

abbrev pub response_sites : List ℕ → Tree → List Site
response_sites input t = response t ∷ flat_map (child_sites input) (out-Tree t).children
