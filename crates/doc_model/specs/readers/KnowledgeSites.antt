-- The objects that have a place in knowledge, in reading order, and the form that each has for itself.
use Rattle.std.specs.Prelude.{◌≡◌, ◌==◌, ℕ, List, [], ◌∷◌, Option, Some, None, option_and_then, if◌then◌else◌}
use Rattle.std.specs.List.{flat_map}
use Rattle.compact_values.specs.Taking.{take_guid, if_all}
use Rattle.compact_values.specs.declared.guid.Guid.{Guid}
use Rattle.stream_objects.specs.declared.tree.Tree.{Tree}
use Rattle.stream_objects.specs.declared.tree.Tree.TheViews.{out-Tree}
use Rattle.stream_objects.specs.Objects.{HasOne, is_kind, start_of, children_of}
use Rattle.stream_objects.specs.ObjectFields.{compound_fields}
use Rattle.stream_objects.specs.declared.object_types.TheConstants.{CELL_KNOWLEDGE, SPECIALIZED_KNOWLEDGE}
use Rattle.doc_model.specs.wire.ElementObjects.{NoFields}
use Rattle.doc_model.specs.wire.Knowledges.{cell_knowledge, SpecializedFields, AddsRanges}
use Rattle.doc_model.specs.declared.knowledge.Range.{Range}

-- a 10, a 44, a 14, and a child of a 14
pub data Site : Type 0 where
  knowledge : Tree → Site
  specialized : Tree → Site
  cells : Tree → Site
  added : Tree → Site

-- The object is in its form, whatever its children are for themselves.
abbrev pub InOwnForm : List ℕ → Site → Type 0
InOwnForm input (knowledge t) = NoFields input t
InOwnForm input (specialized t) = (g : Guid) × SpecializedFields input t g × (g.number ≡ cell_knowledge → HasOne CELL_KNOWLEDGE t)
InOwnForm input (cells t) = NoFields input t
InOwnForm input (added t) = (ranges : List Range) × AddsRanges input t ranges

-- where its fields start
abbrev pub site_start : Site → ℕ
site_start (knowledge t) = start_of t
site_start (specialized t) = start_of t
site_start (cells t) = start_of t
site_start (added t) = start_of t

abbrev pub cells_sites : Tree → List Site
cells_sites t = cells t ∷ flat_map (λ c. added c ∷ []) (out-Tree t).children

-- the GUID of a 44, where it has one
abbrev pub guid_row : List ℕ → Tree → Option Guid
guid_row input t = option_and_then (λ b. if_all (take_guid b)) (compound_fields input t)

-- only a 44 with the GUID of cell knowledge has children with a place
abbrev pub cells_behind : Option Guid → List Tree → List Site
cells_behind (Some g) ts = if g.number == cell_knowledge then flat_map cells_sites ts else []
cells_behind None ts = []

abbrev pub specialized_sites : List ℕ → Tree → List Site
specialized_sites input t = if is_kind SPECIALIZED_KNOWLEDGE t then specialized t ∷ cells_behind (guid_row input t) (children_of CELL_KNOWLEDGE t) else []

abbrev pub knowledge_sites : List ℕ → Tree → List Site
knowledge_sites input t = knowledge t ∷ flat_map (specialized_sites input) (out-Tree t).children
