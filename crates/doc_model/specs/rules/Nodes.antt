-- Nodes of a file (MS-FSSHTTPD 2.2): the bytes of an object whose file is that of its references, joined in order. A node
-- is one object 1F or 20 with exactly one signature and one data size; its other children are skipped.
use Rattle.std.specs.Prelude.{ℕ, Bool, true, false, ◌&&◌, ◌||◌, is_some, List, [], ◌∷◌, ◌++◌, Option, Some, None, option_and_then, if◌then◌else◌}
use Rattle.compact_values.specs.Compact.{little_endian}
use Rattle.compact_values.specs.Items.{item}
use Rattle.compact_values.specs.Taking.{take_item, take_long, if_all}
use Rattle.stream_objects.specs.declared.tree.Tree.{Tree}
use Rattle.stream_objects.specs.Objects.{is_kind, children_of}
use Rattle.stream_objects.specs.ObjectFields.{simple_fields, compound_fields, single}
use Rattle.stream_objects.specs.TreeReading.{tree_of}
use Rattle.stream_objects.specs.Written.{simple_object, compound_object}
use Rattle.stream_objects.specs.declared.object_types.TheConstants.{DATA_SIZE, INTERMEDIATE_NODE, ROOT_NODE, SIGNATURE}

-- ---- what is read

-- the fields of the only child of a type, where it is a simple object
abbrev pub only_fields : List ℕ → ℕ → Tree → Option (List ℕ)
only_fields input kind t = option_and_then (simple_fields input) (single (children_of kind t))

-- 21, signature: binary item
abbrev pub signature_said : List ℕ → Tree → Option (List ℕ)
signature_said input t = option_and_then (λ b. if_all (take_item b)) (only_fields input SIGNATURE t)

-- 22, data size: 8 bytes, little-endian
abbrev pub size_said : List ℕ → Tree → Option ℕ
size_said input t = option_and_then (λ b. if_all (take_long b)) (only_fields input DATA_SIZE t)

abbrev pub is_empty : Option (List ℕ) → Bool
is_empty (Some []) = true
is_empty (Some (b ∷ bytes)) = false
is_empty None = false

-- 1F, intermediate node, or 20, root node, compound: no fields
abbrev pub is_node : List ℕ → Tree → Bool
is_node input t = (is_kind INTERMEDIATE_NODE t || is_kind ROOT_NODE t) && is_empty (compound_fields input t)

-- the data size of a node
abbrev pub size_of_node : List ℕ → Tree → Option ℕ
size_of_node input t = if is_node input t && is_some (signature_said input t) then size_said input t else None

-- the data size of the node that the bytes are, as a whole
unfoldable pub node_size : List ℕ → Option ℕ
node_size bytes = option_and_then (size_of_node bytes) (tree_of bytes)

-- ---- what is written

-- a node of type 1F or 20 with this signature and data size
unfoldable pub node_bytes : ℕ → List ℕ → ℕ → List ℕ
node_bytes kind signature size = compound_object kind [] (simple_object SIGNATURE (item signature) ++ simple_object DATA_SIZE (little_endian 8 size))
