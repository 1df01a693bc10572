-- The number of an extended GUID: the rows of its table, and that its reader recognises its spellings.
use Rattle.std.proofs.Common.{◌≡◌, ℕ, suc, ◌+◌, ◌*◌, ◌/◌, ◌%◌, ◌^◌, ◌<◌, ◌≤◌, ◌⊎◌, inl, inr, List, [], ◌∷◌, ◌++◌, length, take, Option, Some, None, refl, sym, ap, ◌∙◌, arith}
use Rattle.std.proofs.lemmas.Bool.{cases_eq, cases_lt}
use Rattle.std.proofs.lemmas.Bool.Decides.{nat_tests}
use Rattle.compact_values.specs.Spelled.{EndsInside}
use Rattle.compact_values.specs.Kinds.{SpellsBy}
use Rattle.compact_values.specs.Compact.{little_endian}
use Rattle.compact_values.specs.Reading.{Value, Cut, Malformed, in_form}
use Rattle.compact_values.specs.Ids.{exguid_value}
use Rattle.compact_values.specs.IdReading.{exguid_form, in_some_form, exguid_value_at}
use Rattle.compact_values.specs.declared.form.Form.{Form}
use Rattle.compact_values.proofs.LittleEndian.{IsBytes, length-little_endian}
use Rattle.compact_values.proofs.Fields.{Field, Arithmetic, SpellsField, packed, form, stays_in_form, again_field, takes_field, cut_field}
use Rattle.compact_values.proofs.Codes.{Recognises}

-- The bytes are the spelling of the number.
abbrev pub SpellsValue : ℕ → List ℕ → Type 0
SpellsValue = SpellsBy (λ v. v < 2 ^ 32) exguid_value

data Row : Type 0 where
  one : Row
  two : Row
  three : Row
  five : Row

abbrev row_field : Row → Field
row_field one = record { more_bytes = 0; factor = 8; mark = 4; least = 0; limit = 0x20; shift = 3 }
row_field two = record { more_bytes = 1; factor = 64; mark = 32; least = 0x20; limit = 0x400; shift = 6 }
row_field three = record { more_bytes = 2; factor = 128; mark = 64; least = 0x400; limit = 0x20000; shift = 7 }
row_field five = record { more_bytes = 4; factor = 256; mark = 128; least = 0x20000; limit = 2 ^ 32; shift = 8 }

arithmetic : (r : Row) → Arithmetic (row_field r)
arithmetic one = record { fits = λ v h. omega arith; value = λ v. omega arith; marked = λ v. omega arith; whole = λ n h. omega arith; below = λ n h. omega arith; first = λ b m. omega arith; long = λ m h. omega arith }
arithmetic two = record { fits = λ v h. omega arith; value = λ v. omega arith; marked = λ v. omega arith; whole = λ n h. omega arith; below = λ n h. omega arith; first = λ b m. omega arith; long = λ m h. omega arith }
arithmetic three = record { fits = λ v h. omega arith; value = λ v. omega arith; marked = λ v. omega arith; whole = λ n h. omega arith; below = λ n h. omega arith; first = λ b m. omega arith; long = λ m h. omega arith }
arithmetic five = record { fits = λ v h. omega arith; value = λ v. omega arith; marked = λ v. omega arith; whole = λ n h. omega arith; below = λ n h. omega arith; first = λ b m. omega arith; long = λ m h. omega arith }

in_range : (r : Row) (v : ℕ) → v < (row_field r).limit → v < 2 ^ 32
in_range one v h = omega arith
in_range two v h = omega arith
in_range three v h = omega arith
in_range five v h = h

-- ---- the spelling of a number is that of its row

row-one : (v : ℕ) → v < 0x20 → exguid_value v ≡ little_endian 1 (8 * v + 4)
row-one v h = grind (arith, nat_tests)

row-two : (v : ℕ) → 0x20 ≤ v → v < 0x400 → exguid_value v ≡ little_endian 2 (64 * v + 32)
row-two v h k = grind (arith, nat_tests)

row-three : (v : ℕ) → 0x400 ≤ v → v < 0x20000 → exguid_value v ≡ little_endian 3 (128 * v + 64)
row-three v h k = grind (arith, nat_tests)

pub row-widest : (v : ℕ) → 0x20000 ≤ v → exguid_value v ≡ 0x80 ∷ little_endian 4 v
row-widest v h = grind (arith, nat_tests)

widest_field : (v : ℕ) → 0x80 ∷ little_endian 4 v ≡ little_endian 5 (256 * v + 128)
widest_field v =
    let low : (256 * v + 128) % 256 ≡ 0x80 = omega arith in
    let high : (256 * v + 128) / 256 ≡ v = omega arith in
    rw (low, high) refl

value_by_row : (r : Row) (v : ℕ) → (row_field r).least ≤ v → v < (row_field r).limit → exguid_value v ≡ little_endian (suc (row_field r).more_bytes) (packed (row_field r) v)
value_by_row one v lo hi = row-one v hi
value_by_row two v lo hi = row-two v lo hi
value_by_row three v lo hi = row-three v lo hi
value_by_row five v lo hi = row-widest v lo ∙ widest_field v

-- the mark in the first byte names the form
form_by_mark : (r : Row) (b : ℕ) → b < 256 → b % (row_field r).factor ≡ (row_field r).mark → exguid_form b ≡ Some (form (row_field r))
unfolding exguid_form
form_by_mark one b lt h = grind (arith, nat_tests)
form_by_mark two b lt h = grind (arith, nat_tests)
form_by_mark three b lt h = grind (arith, nat_tests)
form_by_mark five b lt h = grind (arith, nat_tests)

no_mark : (b : ℕ) → b < 256 → (b % 8 ≡ 4 → ⊥) → (b % 64 ≡ 32 → ⊥) → (b % 128 ≡ 64 → ⊥) → (b ≡ 128 → ⊥) → exguid_form b ≡ None
unfolding exguid_form
no_mark b lt n1 n2 n3 n4 = grind (arith, nat_tests)

-- a first byte has a row's mark, or there is no form
row_by_mark : (b : ℕ) → b < 256 → ((r : Row) × (b % (row_field r).factor ≡ (row_field r).mark)) ⊎ (exguid_form b ≡ None)
row_by_mark b lt =
    elim (cases_eq (b % 8) 4) [
      | inl h ↦ inl (one, h)
      | inr n1 ↦
          elim (cases_eq (b % 64) 32) [
            | inl h ↦ inl (two, h)
            | inr n2 ↦
                elim (cases_eq (b % 128) 64) [
                  | inl h ↦ inl (three, h)
                  | inr n3 ↦
                      elim (cases_eq b 128) [
                        | inl h ↦ inl (five, omega arith)
                        | inr n4 ↦ inr (no_mark b lt n1 n2 n3 n4)
                      ]
                ]
          ]
    ]

row_by_value : (v : ℕ) → v < 2 ^ 32 → (r : Row) × ((row_field r).least ≤ v) × (v < (row_field r).limit)
row_by_value v lt =
    elim (cases_lt v 0x20) [
      | inl h ↦ (one, omega arith, h)
      | inr g1 ↦
          elim (cases_lt v 0x400) [
            | inl h ↦ (two, g1, h)
            | inr g2 ↦
                elim (cases_lt v 0x20000) [
                  | inl h ↦ (three, g2, h)
                  | inr g3 ↦ (five, g3, lt)
                ]
          ]
    ]

-- ---- the four laws

spells_row : (r : Row) (v : ℕ) (bytes : List ℕ) → SpellsField (row_field r) v bytes → SpellsValue v bytes
spells_row r v bytes s = record { range = in_range r v s.hi; bytes_are = s.bytes_are ∙ sym (value_by_row r v s.lo s.hi) }

read_in : (r : Row) (first : ℕ) (others : List ℕ) → first < 256 → first % (row_field r).factor ≡ (row_field r).mark → exguid_value_at (first ∷ others) ≡ in_form (form (row_field r)) (first ∷ others)
unfolding exguid_value_at
read_in r first others lt named = ap (λ (o : Option Form). in_some_form o (first ∷ others)) (form_by_mark r first lt named)

read_in_none : (first : ℕ) (others : List ℕ) → exguid_form first ≡ None → exguid_value_at (first ∷ others) ≡ Malformed
unfolding exguid_value_at
read_in_none first others e = ap (λ (o : Option Form). in_some_form o (first ∷ others)) e

again : (v : ℕ) (b more : List ℕ) → SpellsValue v b → exguid_value_at (b ++ more) ≡ Value v (length b)
again v b more s =
    let r = row_by_value v s.range in
    let n = packed (row_field r.0) v in
    let width = suc (row_field r.0).more_bytes in
    let is : b ≡ little_endian width n = s.bytes_are ∙ value_by_row r.0 v r.1 r.2 in
    rw is (
    read_in r.0 (n % 256) (little_endian (row_field r.0).more_bytes (n / 256) ++ more) (omega arith) ((arithmetic r.0).marked v)
    ∙ again_field (row_field r.0) (arithmetic r.0) v more r.1 r.2 ∙ ap (λ (k : ℕ). Value v k) (sym (length-little_endian width n))
    )

takes : (b : List ℕ) (v used : ℕ) → IsBytes b → exguid_value_at b ≡ Value v used → (used ≤ length b) × SpellsValue v (take used b)
unfolding exguid_value_at
takes [] v used fits e = absurd cc
takes (first ∷ others) v used fits e =
    elim (row_by_mark first (fits 0)) [
      | inl r ↦
          let t = takes_field (row_field r.0) (arithmetic r.0) first others v used fits r.1 (sym (read_in r.0 first others (fits 0) r.1) ∙ e) in
          (t.0, spells_row r.0 v (take used (first ∷ others)) t.1)
      | inr none ↦ let bad = read_in_none first others none in absurd cc
    ]

cut : (b : List ℕ) → IsBytes b → exguid_value_at b ≡ Cut → EndsInside SpellsValue b
cut [] fits e = (0, 4 ∷ [], omega arith, record { range = omega arith; bytes_are = refl })
cut (first ∷ others) fits e =
    elim (row_by_mark first (fits 0)) [
      | inl r ↦
          let h = cut_field (row_field r.0) (arithmetic r.0) first others fits r.1 (sym (read_in r.0 first others (fits 0) r.1) ∙ e) in
          (h.0, h.1, h.2, spells_row r.0 h.0 (first ∷ (others ++ h.1)) h.3)
      | inr none ↦ let bad = read_in_none first others none in absurd cc
    ]

stays_some : (o : Option Form) (bytes more : List ℕ) → in_some_form o bytes ≡ Malformed → in_some_form o (bytes ++ more) ≡ Malformed
stays_some (Some f) bytes more e = stays_in_form f bytes more e
stays_some None bytes more e = refl

stays : (b more : List ℕ) → IsBytes b → exguid_value_at b ≡ Malformed → exguid_value_at (b ++ more) ≡ Malformed
unfolding exguid_value_at
stays [] more fits e = absurd cc
stays (first ∷ others) more fits e = stays_some (exguid_form first) (first ∷ others) more e

pub value_code : Recognises SpellsValue exguid_value_at
value_code = record { again = again; takes = takes; cut = cut; stays = stays }

-- a number has a first byte, and it isn't the byte of null
pub value_at_zero : (others : List ℕ) → exguid_value_at (0 ∷ others) ≡ Malformed
value_at_zero others = read_in_none 0 others none where
  none : exguid_form 0 ≡ None
  none = no_mark 0 (omega arith) (λ e. absurd (omega arith)) (λ e. absurd (omega arith)) (λ e. absurd (omega arith)) (λ e. absurd (omega arith))

pub value_at_end : exguid_value_at [] ≡ Cut
unfolding exguid_value_at
value_at_end = refl
