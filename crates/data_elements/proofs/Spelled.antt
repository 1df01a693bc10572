-- The fields of written objects spell their values, and are short.
use Rattle.std.proofs.Common.{◌≡◌, ℕ, ◌+◌, ◌^◌, ◌<◌, ◌≤◌, ◌⊎◌, inl, inr, List, [], ◌++◌, length, refl, ap, ◌∙◌, append_assoc, arith}
use Rattle.std.proofs.lemmas.Bool.Decides.{nat_tests, eqb_tells}
use Rattle.std.proofs.lemmas.List.{length-append}
use Rattle.compact_values.specs.Compact.{compact, SpellsCompact}
use Rattle.compact_values.specs.Sequences.{◌▹◌}
use Rattle.compact_values.specs.Ids.{exguid, exguid_value, serial, cell_id, guid_spelling, FitsGuid, FitsExGuid, FitsSerial, FitsCellId, SpellsGuid, SpellsExGuid, SpellsSerial, SpellsCellId}
use Rattle.compact_values.specs.GuidBytes.{guid_bytes}
use Rattle.compact_values.specs.declared.guid.Guid.{Guid}
use Rattle.compact_values.specs.declared.ids.ExGuid.{ExGuid}
use Rattle.compact_values.specs.declared.ids.ExGuid.TheVariants as exguids
use Rattle.compact_values.specs.declared.ids.Serial.{Serial}
use Rattle.compact_values.specs.declared.ids.Serial.TheVariants as serials
use Rattle.compact_values.specs.declared.ids.CellId.{CellId}
use Rattle.doc_model.specs.wire.WrittenElements.{size_if_any}

pub id_spelled : (id : ExGuid) → FitsExGuid id → SpellsExGuid id (exguid id)
id_spelled id f = record { range = f; bytes_are = refl }

pub serial_spelled : (s : Serial) → FitsSerial s → SpellsSerial s (serial s)
serial_spelled s f = record { range = f; bytes_are = refl }

pub cell_spelled : (c : CellId) → FitsCellId c → SpellsCellId c (cell_id c)
cell_spelled c f = record { range = f; bytes_are = refl }

pub guid_spelled : (g : Guid) → FitsGuid g → SpellsGuid g (guid_spelling g)
guid_spelled g f = record { range = f; bytes_are = refl }

pub compact_spelled : (v : ℕ) → v < 2 ^ 64 → SpellsCompact v (compact v)
compact_spelled v f = record { range = f; bytes_are = refl }

value_short : (v : ℕ) → length (exguid_value v) ≤ 5
value_short v = grind (arith, nat_tests)

pub id_short : (id : ExGuid) → length (exguid id) ≤ 21
id_short exguids.Null = omega arith
id_short (exguids.Id guid value) = omega (arith, value_short value, length-append (exguid_value value) (guid_bytes guid.number))

pub serial_short : (s : Serial) → length (serial s) ≤ 25
serial_short serials.Null = omega arith
serial_short (serials.Number guid value) = omega arith

pub cell_short : (c : CellId) → length (cell_id c) ≤ 42
cell_short c = omega (arith, id_short c.first, id_short c.second, length-append (exguid c.first) (exguid c.second))

pub compact_short : (v : ℕ) → length (compact v) ≤ 9
compact_short v = grind (arith, nat_tests)

-- ---- values in a row

module _ {A B : Type 0} (P : A → List ℕ → Type 0) (Q : B → List ℕ → Type 0) where
  pub pair : (a : A) (b : B) (x y : List ℕ) → P a x → Q b y → (P ▹ Q) (a, b) (x ++ y)
  pair a b x y p q = record { front = x; back = y; first = p; second = q; bytes_are = refl }

  -- where the first is written in front of the rest in other words
  pub pair_as : (a : A) (b : B) (x y all : List ℕ) → all ≡ x ++ y → P a x → Q b y → (P ▹ Q) (a, b) all
  pair_as a b x y all e p q = record { front = x; back = y; first = p; second = q; bytes_are = e }

pub assoc_four : (x y z w : List ℕ) → x ++ y ++ z ++ w ≡ x ++ (y ++ (z ++ w))
assoc_four x y z w = append_assoc (x ++ y) z w ∙ append_assoc x y (z ++ w)

pub assoc_five : (x y z w v : List ℕ) → x ++ y ++ z ++ w ++ v ≡ x ++ (y ++ (z ++ (w ++ v)))
assoc_five x y z w v = append_assoc (x ++ y ++ z) w v ∙ assoc_four x y z (w ++ v)

pub assoc_six : (x y z w v u : List ℕ) → x ++ y ++ z ++ w ++ v ++ u ≡ x ++ (y ++ (z ++ (w ++ (v ++ u))))
assoc_six x y z w v u = append_assoc (x ++ y ++ z ++ w) v u ∙ assoc_five x y z w (v ++ u)

pub length_three : (x y z : List ℕ) → length (x ++ y ++ z) ≡ length x + length y + length z
length_three x y z = omega (arith, length-append (x ++ y) z, length-append x y)

pub length_five : (x y z w v : List ℕ) → length (x ++ y ++ z ++ w ++ v) ≡ length x + length y + length z + length w + length v
length_five x y z w v = omega (arith, length-append (x ++ y ++ z ++ w) v, length-append (x ++ y ++ z) w, length_three x y z)

pub length_six : (x y z w v u : List ℕ) → length (x ++ y ++ z ++ w ++ v ++ u) ≡ length x + length y + length z + length w + length v + length u
length_six x y z w v u = omega (arith, length-append (x ++ y ++ z ++ w ++ v) u, length_five x y z w v)

-- a size of 0 is left out
pub size_cases : (size : ℕ) → ((size ≡ 0) × (size_if_any size ≡ [])) ⊎ (size_if_any size ≡ compact size)
size_cases size =
    elim (eqb_tells size 0) [
      | inl y ↦ inl (y.1, rw y.0 refl)
      | inr n ↦ inr (rw n.0 refl)
    ]

pub size_short : (size : ℕ) → length (size_if_any size) ≤ 9
size_short size =
    elim (size_cases size) [
      | inl y ↦ omega (arith, ap (λ (l : List ℕ). length l) y.1)
      | inr n ↦ omega (arith, ap (λ (l : List ℕ). length l) n, compact_short size)
    ]
