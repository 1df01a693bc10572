-- The objects of a request that have a place in it, in reading order, and the form that each has for itself: whether an
-- object is in its own form doesn't depend on the forms of its children, only on which of them are there.
use Rattle.std.specs.Prelude.{◌≡◌, ℕ, suc, ◌<◌, ◌==◌, true, List, [], ◌∷◌, ◌++◌, map, Option, Some, None, option_and_then, if◌then◌else◌}
use Rattle.compact_values.specs.Taking.{take_compact, take_both, if_some}
use Rattle.compact_values.specs.declared.ids.ExGuid.{ExGuid}
use Rattle.stream_objects.specs.declared.tree.Tree.{Tree}
use Rattle.stream_objects.specs.declared.tree.Tree.TheViews.{out-Tree}
use Rattle.stream_objects.specs.Objects.{HasOne, kind_of, is_kind, start_of, children_of}
use Rattle.stream_objects.specs.ObjectFields.{compound_fields}
use Rattle.stream_objects.specs.declared.object_types.TheConstants.{ALLOCATE_EXTENDED_GUID_RANGE_REQUEST, DATA_ELEMENT_PACKAGE, PUT_CHANGES_REQUEST, QUERY_CHANGES_REQUEST, REQUEST, SUB_REQUEST}
use Rattle.doc_model.specs.readers.ElementSites as elements
use Rattle.doc_model.specs.readers.KnowledgeSites as knowledges
use Rattle.doc_model.specs.rules.Limits.{most_puts, most_sub_requests}
use Rattle.doc_model.specs.wire.Requests.{SubRequestFields, PutFields, AllocateFields, first_knowledge}

-- A sub-request has its number among the sub-requests, a put its number among the puts, both from 0.
pub data Site : Type 0 where
  request : Tree → Site
  sub_request : ℕ → Tree → Site
  known : knowledges.Site → Site
  put : ℕ → Tree → Site
  allocate : Tree → Site
  packed : elements.Site → Site

-- What a sub-request of its kind must hold is there once.
pub record HoldsOnce (kind : ℕ) (t : Tree) : Type 0 where
  pub query : kind ≡ 2 → HasOne QUERY_CHANGES_REQUEST t
  pub put : kind ≡ 5 → HasOne PUT_CHANGES_REQUEST t
  pub allocate : kind ≡ 11 → HasOne ALLOCATE_EXTENDED_GUID_RANGE_REQUEST t

-- The object is in its form, whatever its children are for themselves. A sub-request behind the 64th is not, and the
-- fields of a put behind the fourth are not.
abbrev pub InOwnForm : List ℕ → Site → Type 0
InOwnForm input (request t) = (kind_of t ≡ REQUEST) × ((out-Tree t).compound ≡ true) × HasOne DATA_ELEMENT_PACKAGE t
InOwnForm input (sub_request n t) = (n < most_sub_requests) × ((id : ℕ) × (kind : ℕ) × SubRequestFields input t id kind × HoldsOnce kind t)
InOwnForm input (known p) = knowledges.InOwnForm input p
InOwnForm input (put m t) = (m < most_puts) × ((fields : ExGuid × (ExGuid × ℕ)) × PutFields input t fields)
InOwnForm input (allocate t) = (count : ℕ) × AllocateFields input t count
InOwnForm input (packed p) = elements.InOwnForm input p

-- where its fields start
abbrev pub site_start : Site → ℕ
site_start (request t) = start_of t
site_start (sub_request n t) = start_of t
site_start (known p) = knowledges.site_start p
site_start (put m t) = start_of t
site_start (allocate t) = start_of t
site_start (packed p) = elements.site_start p

-- ---- reading order

-- id, kind and priority of a sub-request, where it has them
abbrev pub sub_row : List ℕ → Tree → Option (ℕ × (ℕ × ℕ))
sub_row input t = option_and_then (λ b. if_some (take_both take_compact (take_both take_compact take_compact) b)) (compound_fields input t)

-- the knowledge of a query
abbrev pub known_sites : List ℕ → Option Tree → List Site
known_sites input (Some t) = map known (knowledges.knowledge_sites input t)
known_sites input None = []

-- what has a place in a sub-request of a kind, behind so many puts
abbrev pub held_sites : List ℕ → ℕ → Tree → ℕ → List Site
held_sites input m t kind =
    if kind == 2 then known_sites input (first_knowledge t)
    else if kind == 5 then map (put m) (children_of PUT_CHANGES_REQUEST t)
    else if kind == 11 then map allocate (children_of ALLOCATE_EXTENDED_GUID_RANGE_REQUEST t)
    else []

-- Where a sub-request has its fields, they tell what has a place in it.
abbrev pub sites_behind : List ℕ → ℕ → Tree → Option (ℕ × (ℕ × ℕ)) → List Site
sites_behind input m t (Some fields) = held_sites input m t fields.1.0
sites_behind input m t None = []

-- the n-th sub-request, behind so many puts
abbrev pub sub_sites : List ℕ → ℕ → ℕ → Tree → List Site
sub_sites input n m t = sub_request n t ∷ sites_behind input m t (sub_row input t)

-- how many puts there are with a sub-request
abbrev pub puts_with : ℕ → Option (ℕ × (ℕ × ℕ)) → ℕ
puts_with m (Some fields) = if fields.1.0 == 5 then suc m else m
puts_with m None = m

-- the children of a request, behind so many sub-requests and puts
abbrev pub child_sites : List ℕ → ℕ → ℕ → List Tree → List Site
child_sites input n m [] = []
child_sites input n m (t ∷ ts) =
    if is_kind SUB_REQUEST t then sub_sites input n m t ++ child_sites input (suc n) (puts_with m (sub_row input t)) ts
    else if is_kind DATA_ELEMENT_PACKAGE t then map packed (elements.package_sites input t) ++ child_sites input n m ts
    else child_sites input n m ts

abbrev pub request_sites : List ℕ → Tree → List Site
request_sites input t = request t ∷ child_sites input 0 0 (out-Tree t).children
