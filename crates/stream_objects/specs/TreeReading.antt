-- Reading a tree from left to right, as a function of the bytes.
use Rattle.std.specs.Prelude.{ℕ, zero, suc, ◌+◌, ◌==◌, Bool, ◌&&◌, nat_le, List, [], ◌∷◌, length, drop, if◌then◌else◌}
use Rattle.std.specs.Prelude.{Option, Some, None, option_and_then}
use Rattle.std.specs.Option.{option_map}
use Rattle.compact_values.specs.Reading.{Reading, Value, Cut, Malformed}
use Rattle.compact_values.specs.declared.span.Span.{Span}
use Rattle.stream_objects.specs.HeaderReading.{header_at}
use Rattle.stream_objects.specs.Trees.{objects}
use Rattle.stream_objects.specs.declared.headers.Header.{Header}
use Rattle.stream_objects.specs.declared.headers.Header.TheVariants.{Start, End}
use Rattle.stream_objects.specs.declared.tree.Tree.{Tree}
use Rattle.stream_objects.specs.declared.tree.Tree.TheViews.{roll-Tree}
use Rattle.stream_objects.specs.declared.limits.TheConstants.{MOST_LEVELS, MOST_OBJECTS}

-- an object whose fields stand in the input
pub record Started : Type 0 where
  pub kind : ℕ
  pub compound : Bool
  pub fields : Span

-- the start that was read at a place, where its fields are within an input of this length
abbrev pub started_at : ℕ → ℕ → Reading Header → Option Started
started_at size place (Value (Start kind compound len) used) =
    if nat_le (place + used + len) size then Some (record { kind = kind; compound = compound; fields = record { from = place + used; to = place + used + len } }) else None
started_at size place (Value (End kind) used) = None
started_at size place Cut = None
started_at size place Malformed = None

-- the place behind the end that was read at a place, where it is of this type
abbrev pub ended_at : ℕ → ℕ → Reading Header → Option ℕ
ended_at kind place (Value (Start other compound len) used) = None
ended_at kind place (Value (End other) used) = if other == kind then Some (place + used) else None
ended_at kind place Cut = None
ended_at kind place Malformed = None

-- a child, and what is read behind it
abbrev pub before : Tree → List Tree × ℕ → List Tree × ℕ
before child (children, next) = (child ∷ children, next)

-- no more children where the end stands, else one and those behind it
abbrev pub until_end : Option ℕ → Option (Tree × ℕ) → (ℕ → Option (List Tree × ℕ)) → Option (List Tree × ℕ)
until_end (Some next) child others = Some ([], next)
until_end None child others = option_and_then (λ c. option_map (before c.0) (others c.1)) child

-- the children up to an end of this type, and the place behind that end. At most so many headers are read.
unfoldable pub children_at : (ℕ → Option (Tree × ℕ)) → List ℕ → ℕ → ℕ → ℕ → Option (List Tree × ℕ)
children_at child_at input kind zero place = None
children_at child_at input kind (suc most) place =
    until_end (ended_at kind place (header_at (drop place input))) (child_at place) (children_at child_at input kind most)

abbrev pub with_children : Started → List Tree × ℕ → Tree × ℕ
with_children s (children, next) = (roll-Tree (record { kind = s.kind; compound = s.compound; fields = s.fields; children = children }), next)

-- the object that starts so, and the place behind it
abbrev pub whole_object : (ℕ → Option (Tree × ℕ)) → List ℕ → Started → Option (Tree × ℕ)
whole_object child_at input s =
    option_map (with_children s) (if s.compound then children_at child_at input s.kind (length input) s.fields.to else Some ([], s.fields.to))

-- the object of at most so many levels that stands at a place, and the place behind it
unfoldable pub object_at : ℕ → List ℕ → ℕ → Option (Tree × ℕ)
object_at zero input place = None
object_at (suc levels) input place = option_and_then (whole_object (object_at levels input) input) (started_at (length input) place (header_at (drop place input)))

-- the object, where it ends with the input and isn't too large
abbrev pub if_whole : List ℕ → Tree × ℕ → Option Tree
if_whole bytes (tree, next) = if next == length bytes && nat_le (objects tree) MOST_OBJECTS then Some tree else None

-- the tree that the bytes are
unfoldable pub tree_of : List ℕ → Option Tree
tree_of bytes = option_and_then (if_whole bytes) (object_at MOST_LEVELS bytes 0)
