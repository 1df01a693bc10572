-- Whether the children of an element that have a place are in form, and what they say.
use Rattle.std.specs.Prelude.{ℕ, List, [], ◌∷◌, ◌++◌, ◌==◌, Option, Some, None, option_and_then, Result, Ok, Err, if◌then◌else◌}
use Rattle.stream_objects.specs.declared.tree.Tree.{Tree}
use Rattle.stream_objects.specs.Objects.{start_of, children_of}
use Rattle.stream_objects.specs.ObjectFields.{single}
use Rattle.stream_objects.specs.Gathering.{and_then}
use Rattle.doc_model.specs.readers.ElementSites.{has_place, members_in}
use Rattle.data_elements.specs.Rows.{child_ok, member_ok}

-- the first fault of two
abbrev pub or_then : Option ℕ → Option ℕ → Option ℕ
or_then (Some place) next = Some place
or_then None next = next

-- the first fault of what a half of a group holds
abbrev pub check_members : List ℕ → List Tree → Option ℕ
check_members input [] = None
check_members input (t ∷ ts) = if member_ok input t then check_members input ts else Some (start_of t)

-- the fault of a child that has a place, and in a group the first fault of what it holds
unfoldable pub child_fault : List ℕ → ℕ → Tree → Option ℕ
child_fault input kind t =
    if child_ok input t then (if kind == 5 then check_members input (members_in t) else None)
    else Some (start_of t)

-- the first fault of the children
abbrev pub check_at : List ℕ → ℕ → List Tree → Option ℕ
check_at input kind [] = None
check_at input kind (t ∷ ts) = if has_place kind t then or_then (child_fault input kind t) (check_at input kind ts) else check_at input kind ts

abbrev pub unless_broken : {A : Type 0} → Option ℕ → Result A ℕ → Result A ℕ
unless_broken (Some place) next = Err place
unless_broken None next = next

abbrev pub or_broken : {V : Type 0} → ℕ → Option V → Result V ℕ
or_broken place (Some v) = Ok v
or_broken place None = Err place

-- what the objects say, in order
abbrev pub collect_from : {V : Type 0} → (List ℕ → Tree → Option V) → List ℕ → List V → List Tree → Result (List V) ℕ
collect_from row input vs [] = Ok vs
collect_from row input vs (t ∷ ts) = and_then (or_broken (start_of t) (row input t)) (λ v. collect_from row input (vs ++ v ∷ []) ts)

abbrev pub collect : {V : Type 0} → ℕ → (List ℕ → Tree → Option V) → List ℕ → Tree → Result (List V) ℕ
collect kind row input t = collect_from row input [] (children_of kind t)

-- what the only child of a type says
abbrev pub only : {V : Type 0} → ℕ → (List ℕ → Tree → Option V) → List ℕ → Tree → Result V ℕ
only kind row input t = or_broken (start_of t) (option_and_then (row input) (single (children_of kind t)))
