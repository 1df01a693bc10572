-- The objects that a file is cut into (MS-FSSHTTPD 2.2 and 2.4): leaves with the file's bytes, and nodes that refer to what they join.
use Rattle.std.specs.Prelude.{ℕ, zero, suc, ◌+◌, List, [], ◌∷◌, ◌++◌, length, map, nat_le, if◌then◌else◌}
use Rattle.std.specs.List.{flat_map}
use Rattle.sha2.specs.Sha256.{sha256}
use Rattle.compact_values.specs.declared.guid.Guid.{Guid}
use Rattle.compact_values.specs.declared.ids.ExGuid.{ExGuid}
use Rattle.compact_values.specs.declared.ids.ExGuid.TheVariants.{Id}
use Rattle.stream_objects.specs.declared.object_types.TheConstants.{INTERMEDIATE_NODE, ROOT_NODE}
use Rattle.doc_model.specs.declared.element.Object.{Object}
use Rattle.doc_model.specs.declared.element.Content.TheVariants.{Inline}
use Rattle.doc_model.specs.rules.Nodes.{node_bytes}
use Rattle.file_nodes.specs.Pieces.{pieces}

-- an object that has its bytes with it
abbrev pub inline : Guid → ℕ → List ExGuid → List ℕ → Object
inline guid value references bytes =
    record { id = Id guid value; partition = 1; size = length bytes; references = references; cells = []; content = Inline bytes }

-- A part of the file: an object, and the bytes of the file that it stands for.
pub record Chunk : Type 0 where
  pub object : Object
  pub file : List ℕ

-- a leaf has the bytes themselves
abbrev pub leaf : Guid → ℕ → List ℕ → Chunk
leaf guid value bytes = record { object = inline guid value [] bytes; file = bytes }

-- the objects of parts, their ids, and their files joined in order
abbrev pub objects_of : List Chunk → List Object
objects_of parts = map (λ p. p.object) parts

abbrev pub ids_of : List Chunk → List ExGuid
ids_of parts = map (λ p. p.object.id) parts

abbrev pub joined_files : List Chunk → List ℕ
joined_files parts = flat_map (λ p. p.file) parts

-- a node refers to the parts that it joins, and has the hash and the length of their bytes
abbrev pub node : ℕ → Guid → ℕ → List Chunk → Chunk
node kind guid value parts =
    let file = joined_files parts in
    record { object = inline guid value (ids_of parts) (node_bytes kind (sha256 file) (length file)); file = file }

-- a part of each, with consecutive values from this one on
abbrev pub numbered : {X : Type 0} → (ℕ → X → Chunk) → ℕ → List X → List Chunk
numbered make value [] = []
numbered make value (x ∷ xs) = make value x ∷ numbered make (value + 1) xs

-- the parts of all levels, level by level, and those of the top level alone
pub record Levels : Type 0 where
  pub all : List Chunk
  pub top : List Chunk

-- The levels from this one up, whose first part has this value. While a level has more than 64 parts, each 64 consecutive ones, the
-- last group fewer, are joined by an intermediate node (1F) of the next level. Each level is shorter than the one below it.
unfoldable pub levels_within : ℕ → Guid → ℕ → List Chunk → Levels
levels_within zero guid value level = record { all = level; top = level }
levels_within (suc count) guid value level =
    if nat_le (length level) 64 then record { all = level; top = level }
    else
    let next = value + length level in
    let above = levels_within count guid next (numbered (node INTERMEDIATE_NODE guid) next (pieces 64 level)) in
    record { all = level ++ above.all; top = above.top }

-- the leaves of a file: its bytes in pieces of 65,536, and none of an empty file
abbrev pub leaves : List ℕ → Guid → ℕ → List Chunk
leaves bytes guid value = numbered (leaf guid) value (pieces 65536 bytes)

abbrev pub levels : List ℕ → Guid → ℕ → Levels
levels bytes guid value = let level = leaves bytes guid value in levels_within (length level) guid value level

-- The objects of a file, the first with this value: the root node (20), which refers to the top level, the leaves in order, and the
-- intermediate nodes level by level.
abbrev pub file_parts : List ℕ → Guid → ℕ → List Chunk
file_parts bytes guid value = let below = levels bytes guid (value + 1) in node ROOT_NODE guid value below.top ∷ below.all

abbrev pub file_objects : List ℕ → Guid → ℕ → List Object
file_objects bytes guid value = objects_of (file_parts bytes guid value)
