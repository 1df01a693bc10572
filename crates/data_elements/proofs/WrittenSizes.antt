-- What is read of elements is written in hardly more bytes: at most five for each four. Only the counts of references may take
-- more bytes than before, and they are small beside the references.
use Rattle.std.proofs.Common.{◌≡◌, ℕ, ◌+◌, ◌*◌, ◌≤◌, false, List, [], ◌∷◌, length, ap, arith, length-append}
use Rattle.std.specs.List.{flat_map}
use Rattle.std.proofs.lemmas.Bool.Decides.{nat_tests}
use Rattle.compact_values.specs.Compact.{compact}
use Rattle.compact_values.specs.GuidBytes.{guid_bytes}
use Rattle.compact_values.specs.Ids.{exguid_value, exguid, serial, cell_id}
use Rattle.compact_values.specs.Items.{array}
use Rattle.compact_values.specs.declared.ids.ExGuid.{ExGuid}
use Rattle.compact_values.specs.declared.ids.ExGuid.TheVariants as exguids
use Rattle.compact_values.specs.declared.ids.CellId.{CellId}
use Rattle.compact_values.specs.declared.ids.Serial.{Serial}
use Rattle.compact_values.specs.declared.ids.Serial.TheVariants as serials
use Rattle.stream_objects.specs.Objects.{Each, fields_of}
use Rattle.stream_objects.specs.declared.tree.Tree.{Tree}
use Rattle.wire_kinds.specs.Row.{Row, IsOf, row_bytes}
use Rattle.doc_model.specs.rules.Weights.{started_size}
use Rattle.doc_model.proofs.SizeLemmas.{length_started}
use Rattle.data_elements.proofs.Totals.{total, total-cons}
use Rattle.data_elements.proofs.SpelledSizes.{size, size_out}

-- ---- values

-- a start takes two bytes at least
pub two_more : (n : ℕ) → 2 + n ≤ started_size n
two_more n = grind (arith, nat_tests)

-- and two where the fields are few
pub two_for_few : (n : ℕ) → n ≤ 127 → started_size n ≡ 2 + n
two_for_few n few = grind (arith, nat_tests)

pub compact_some : (v : ℕ) → 1 ≤ length (compact v)
compact_some v = grind (arith, nat_tests)

-- A number takes few bytes beside as many bytes as it says.
pub compact_low : (v : ℕ) → 4 * length (compact v) ≤ 4 + v
compact_low v = grind (arith, nat_tests)

value_some : (v : ℕ) → 1 ≤ length (exguid_value v)
value_some v = grind (arith, nat_tests)

pub exguid_some : (id : ExGuid) → 1 ≤ length (exguid id)
exguid_some exguids.Null = omega arith
exguid_some (exguids.Id guid value) = omega (arith, value_some value, length-append (exguid_value value) (guid_bytes guid.number))

pub serial_some : (s : Serial) → 1 ≤ length (serial s)
serial_some serials.Null = omega arith
serial_some (serials.Number guid value) = omega arith

pub cell_some : (c : CellId) → 1 ≤ length (cell_id c)
cell_some c = omega (arith, exguid_some c.first, length-append (exguid c.first) (exguid c.second))

listed : {V : Type 0} (f : V → List ℕ) → ((v : V) → 1 ≤ length (f v)) → (vs : List V) → length vs ≤ length (flat_map f vs)
listed {V} f some [] = omega arith
listed {V} f some (v ∷ vs) = omega (arith, some v, listed f some vs, length-append (f v) (flat_map f vs))

pub array_long : {V : Type 0} (f : V → List ℕ) → ((v : V) → 1 ≤ length (f v)) → (vs : List V) → length vs ≤ length (array f vs)
array_long {V} f some vs = omega (arith, listed f some vs, length-append (compact (length vs)) (flat_map f vs))

-- ---- regular objects

module _ (input : List ℕ) where
  -- an object takes its fields and its start
  pub own_size : (t : Tree) → started_size (length (fields_of input t)) ≤ size input t
  own_size t = omega (arith, size_out input t)

  pub row_size : {V : Type 0} (row : Row V) (t : Tree) (v : V) → row.number ≤ 63 → IsOf row input t v → length (row_bytes row v) ≤ size input t
  unfolding row_bytes
  row_size {V} row t v small is =
      omega (
        arith,
        length_started row.number false (row.fields.bytes v) small,
        own_size t,
        ap (λ (b : List ℕ). started_size (length b)) is.fields.bytes_are,
      )

  pub each_size : {V : Type 0} (row : Row V) (ts : List Tree) (vs : List V) → row.number ≤ 63 → Each (IsOf row input) ts vs → length (flat_map (row_bytes row) vs) ≤ total (size input) ts
  each_size {V} row [] [] small e = omega arith
  each_size {V} row (t ∷ ts) (v ∷ vs) small e =
      omega (arith, length-append (row_bytes row v) (flat_map (row_bytes row) vs), row_size row t v small e.0, each_size row ts vs small e.1, total-cons (size input) t ts)
  each_size {V} row [] (v ∷ vs) small e = absurd e
  each_size {V} row (t ∷ ts) [] small e = absurd e
