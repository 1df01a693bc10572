-- The fields of an object are read exactly, and a written object is read again.
use Rattle.std.proofs.Common.{◌≡◌, ℕ, suc, ◌+◌, ◌<◌, ◌≤◌, ◌^◌, List, length, Option, Some, refl}
use Rattle.compact_values.specs.Taking.{if_all}
use Rattle.compact_values.proofs.LittleEndian.{IsBytes}
use Rattle.compact_values.proofs.Takes.{Takes, gets_all}
use Rattle.stream_objects.specs.declared.tree.Tree.{Tree}
use Rattle.stream_objects.specs.Objects.{kind_of}
use Rattle.stream_objects.proofs.Children.{simple_gets, simple_again, IsBytes-fields}
use Rattle.stream_objects.proofs.Standing.{At, Whole, leaf}
use Rattle.wire_kinds.specs.Kind.{Spells}
use Rattle.wire_kinds.specs.Row.{Row, IsOf, row_bytes, row_at}

-- What is read is what the fields say, and each value that they say is read.
pub record Reads {V : Type 0} (row : Row V) (read : List ℕ → Tree → Option V) : Type 0 where
  pub found : (input : List ℕ) → IsBytes input → (t : Tree) (v : V) → read input t ≡ Some v → IsOf row input t v
  pub again : (input : List ℕ) → IsBytes input → (t : Tree) (v : V) → IsOf row input t v → read input t ≡ Some v

pub reads : {V : Type 0} (row : Row V) (get : List ℕ → Option (V × List ℕ)) → Takes (Spells row.fields) get → Reads row (row_at get)
unfolding row_at
reads row get exact =
    let gets = gets_all (Spells row.fields) get exact in
    record {
      found = λ input fits t v e. simple_gets (Spells row.fields) (λ b. if_all (get b)) gets input t (IsBytes-fields input t fits) v e;
      again = λ input fits t v h. simple_again (Spells row.fields) (λ b. if_all (get b)) gets input t (IsBytes-fields input t fits) v h;
    }

-- ---- written

-- a written object stands as one of its row
pub row_stands : {V : Type 0} (row : Row V) → row.number ≤ 16383 → (input : List ℕ) (levels p : ℕ) (v : V) → row.fields.Fits v → length (row.fields.bytes v) < 2 ^ 64 → At input p (row_bytes row v)
    → Whole input (suc levels) (λ t. (kind_of t ≡ row.number) × IsOf row input t v) 1 p (p + length (row_bytes row v))
unfolding row_bytes
row_stands {V} row small input levels p v f short a =
    leaf input levels p row.number (Spells row.fields) v (row.fields.bytes v) small short (record { range = f; bytes_are = refl }) a
