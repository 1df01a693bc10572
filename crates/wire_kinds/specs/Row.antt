-- A type of objects without children: its number, and what its fields are.
use Rattle.std.specs.Prelude.{ℕ, ◌+◌, nat_le, nat_lt, ◌&&◌, false, List, length, Option, option_and_then, if◌then◌else◌}
use Rattle.compact_values.specs.Compact.{compact}
use Rattle.compact_values.specs.Taking.{if_all}
use Rattle.stream_objects.specs.Objects.{HasFields}
use Rattle.stream_objects.specs.ObjectFields.{simple_fields}
use Rattle.stream_objects.specs.Written.{simple_object}
use Rattle.stream_objects.specs.declared.tree.Tree.{Tree}
use Rattle.wire_kinds.specs.Kind.{Kind, Spells, by}

pub record Row (V : Type 0) : Type 1 where
  pub number : ℕ
  pub fields : Kind V

abbrev pub row : {V : Type 0} → ℕ → Kind V → Row V
row number fields = record { number = number; fields = fields }

-- an object type of this number, with these fields
abbrev pub simple : {F V : Type 0} → ℕ → Kind F → (V → F) → Row V
simple number kind fields = row number (by kind fields)

-- The fields of the object are those of the value.
abbrev pub IsOf : {V : Type 0} → Row V → List ℕ → Tree → V → Type 0
IsOf row input tree v = HasFields false (Spells row.fields) input tree v

-- the object as it is written
unfoldable pub row_bytes : {V : Type 0} → Row V → V → List ℕ
row_bytes row v = simple_object row.number (row.fields.bytes v)

-- how many bytes the start of an object takes, by its number and the length of its fields
abbrev pub start_size : ℕ → ℕ → ℕ
start_size number n = if nat_le number 63 && nat_le n 127 then 2 else if nat_lt n 32767 then 4 else 4 + length (compact n)

-- ---- reading

-- the value that the fields of an object are
unfoldable pub row_at : {V : Type 0} → (List ℕ → Option (V × List ℕ)) → List ℕ → Tree → Option V
row_at get input tree = option_and_then (λ b. if_all (get b)) (simple_fields input tree)
