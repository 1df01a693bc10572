-- Reading knowledge: the ranges, or where the fields of the first object start that isn't in its form.
use Rattle.std.specs.Prelude.{ℕ, List, [], ◌∷◌, ◌++◌, ◌==◌, Option, Some, None, option_map, Result, Ok, Err, if◌then◌else◌}
use Rattle.compact_values.specs.declared.guid.Guid.{Guid}
use Rattle.compact_values.specs.declared.ids.Serial.{Serial}
use Rattle.compact_values.specs.Taking.{take_compact, take_guid, take_serial, take_both}
use Rattle.stream_objects.specs.declared.tree.Tree.{Tree}
use Rattle.stream_objects.specs.declared.tree.Tree.TheViews.{out-Tree}
use Rattle.stream_objects.specs.Objects.{is_kind, start_of, children_of}
use Rattle.stream_objects.specs.ObjectFields.{single}
use Rattle.stream_objects.specs.Gathering.{gather}
use Rattle.stream_objects.specs.declared.object_types.TheConstants.{CELL_KNOWLEDGE, CELL_KNOWLEDGE_ENTRY, CELL_KNOWLEDGE_RANGE, SPECIALIZED_KNOWLEDGE}
use Rattle.doc_model.specs.wire.Knowledges.{cell_knowledge, entry_ranges}
use Rattle.doc_model.specs.readers.KnowledgeSites.{guid_row}
use Rattle.doc_model.specs.declared.knowledge.Range.{Range}
use Rattle.data_elements.specs.Rows.{simple_row, has_no_fields}

abbrev pub range_of : Guid × (ℕ × ℕ) → Range
range_of p = record { guid = p.0; from = p.1.0; to = p.1.1 }

abbrev pub range_row : List ℕ → Tree → Option Range
range_row input t = option_map range_of (simple_row (take_both take_guid (take_both take_compact take_compact)) input t)

abbrev pub entry_row : List ℕ → Tree → Option Serial
entry_row input t = simple_row take_serial input t

abbrev pub add_range : ℕ → List Range → Option Range → Result (List Range) ℕ
add_range place ranges (Some r) = Ok (ranges ++ r ∷ [])
add_range place ranges None = Err place

abbrev pub add_entry : ℕ → List Range → Option Serial → Result (List Range) ℕ
add_entry place ranges (Some s) = Ok (ranges ++ entry_ranges s)
add_entry place ranges None = Err place

unfoldable pub added_at : List ℕ → List Range → Tree → Result (List Range) ℕ
added_at input ranges t =
    if is_kind CELL_KNOWLEDGE_RANGE t then add_range (start_of t) ranges (range_row input t)
    else if is_kind CELL_KNOWLEDGE_ENTRY t then add_entry (start_of t) ranges (entry_row input t)
    else Ok ranges

unfoldable pub cells_at : List ℕ → List Range → Tree → Result (List Range) ℕ
cells_at input ranges t = if has_no_fields input t then gather (added_at input) ranges (out-Tree t).children else Err (start_of t)

abbrev pub only_cells : List ℕ → ℕ → List Range → Option Tree → Result (List Range) ℕ
only_cells input place ranges (Some c) = cells_at input ranges c
only_cells input place ranges None = Err place

abbrev pub specialized_with : List ℕ → Tree → List Range → Option Guid → Result (List Range) ℕ
specialized_with input t ranges (Some g) = if g.number == cell_knowledge then only_cells input (start_of t) ranges (single (children_of CELL_KNOWLEDGE t)) else Ok ranges
specialized_with input t ranges None = Err (start_of t)

unfoldable pub specialized_at : List ℕ → List Range → Tree → Result (List Range) ℕ
specialized_at input ranges t = if is_kind SPECIALIZED_KNOWLEDGE t then specialized_with input t ranges (guid_row input t) else Ok ranges

unfoldable pub knowledge_at : List ℕ → Tree → Result (List Range) ℕ
knowledge_at input t = if has_no_fields input t then gather (specialized_at input) [] (out-Tree t).children else Err (start_of t)
