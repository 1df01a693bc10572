-- The readers of GUIDs, extended GUIDs and serial numbers recognise their spellings.
use Rattle.std.proofs.Common.{◌≡◌, ◌≢◌, ℕ, zero, suc, ◌+◌, ◌-◌, ◌^◌, ◌<◌, ◌≤◌, true, false, inl, inr, List, [], ◌∷◌, ◌++◌, length, take, drop, Option, Some, None, Err, refl, sym, ap, subst, ◌∙◌, arith}
use Rattle.std.specs.Prelude.{replicate, nat_eq}
use Rattle.std.proofs.lemmas.Bool.{cases_lt, lt-ltb, le-ltb}
use Rattle.std.proofs.lemmas.Bool.Decides.{eqb_tells}
use Rattle.std.proofs.lemmas.List.{take_at, length-append, length-take, length-replicate}
use Rattle.compact_values.specs.Spelled.{EndsInside}
use Rattle.compact_values.specs.Both.{SpellsBoth, read_behind, read_then, read_both}
use Rattle.compact_values.specs.Compact.{little_endian}
use Rattle.compact_values.specs.Reading.{Reading, Value, Cut, Malformed, number_of, answer_at}
use Rattle.compact_values.specs.GuidBytes.{guid_bytes, guid_number}
use Rattle.compact_values.specs.Ids.{SpellsGuid, SpellsExGuid, SpellsSerial, SpellsLong, exguid_value}
use Rattle.compact_values.specs.IdReading.{read_as, null_or, guid_at, long_at, mark_at, exguid_value_at, to_exguid, exguid_at, to_serial, serial_at}
use Rattle.compact_values.specs.declared.fault.ValueFault.{ValueFault}
use Rattle.compact_values.specs.declared.guid.Guid.{Guid}
use Rattle.compact_values.specs.declared.ids.ExGuid.{ExGuid}
use Rattle.compact_values.specs.declared.ids.ExGuid.TheVariants as exguids
use Rattle.compact_values.specs.declared.ids.Serial.{Serial}
use Rattle.compact_values.specs.declared.ids.Serial.TheVariants as serials
use Rattle.compact_values.proofs.LittleEndian.{IsBytes, length-little_endian, number_of-little_endian, little_endian-number_of, number_of_below}
use Rattle.compact_values.proofs.GuidLemmas.{guid_back, guid_again, guid_number_below}
use Rattle.compact_values.proofs.Fields.{IsBytes-append, IsBytes-take}
use Rattle.compact_values.proofs.Codes.{Recognises, cases_reading}
use Rattle.compact_values.proofs.BothCode.{both_code}
use Rattle.compact_values.proofs.ReadingSteps.{as_fault, second_fault, not_null}
use Rattle.compact_values.proofs.IdRows.{SpellsValue, value_code, value_at_zero, value_at_end}

-- ---- a value by another name

-- readers of two types of which each value of one is a value of the other
pub as_code : {A B : Type 0} (Spells : A → List ℕ → Type 0) (read : List ℕ → Reading A) (SpellsTo : B → List ℕ → Type 0) (to : A → B) (back : B → A) → ((b : B) → to (back b) ≡ b)
    → ((a : A) (bytes : List ℕ) → Spells a bytes → SpellsTo (to a) bytes) → ((b : B) (bytes : List ℕ) → SpellsTo b bytes → Spells (back b) bytes)
    → Recognises Spells read → Recognises SpellsTo (λ bytes. read_as to (read bytes))
as_code {A} {B} Spells read SpellsTo to back there onward backward code = record { again = again; takes = takes; cut = cut; stays = stays } where
  again : (v : B) (b more : List ℕ) → SpellsTo v b → read_as to (read (b ++ more)) ≡ Value v (length b)
  again v b more s = ap (read_as to) (code.again (back v) b more (backward v b s)) ∙ ap (λ (w : B). Value w (length b)) (there v)

  takes : (b : List ℕ) (v : B) (used : ℕ) → IsBytes b → read_as to (read b) ≡ Value v used → (used ≤ length b) × SpellsTo v (take used b)
  takes b v used fits e =
      elim (cases_reading (read b)) [
        | inl r ↦
            let same : Value (to r.0) r.1 ≡ Value v used = sym (ap (read_as to) r.2) ∙ e in
            let value : to r.0 ≡ v = cc in
            let count : r.1 ≡ used = cc in
            let t = code.takes b r.0 r.1 fits r.2 in
            (subst (λ (n : ℕ). n ≤ length b) count t.0, subst (λ (n : ℕ). SpellsTo v (take n b)) count (subst (λ (w : B). SpellsTo w (take r.1 b)) value (onward r.0 (take r.1 b) t.1)))
        | inr (inl r) ↦ let bad : read_as to (read b) ≡ Cut = ap (read_as to) r in absurd cc
        | inr (inr r) ↦ let bad : read_as to (read b) ≡ Malformed = ap (read_as to) r in absurd cc
      ]

  cut : (b : List ℕ) → IsBytes b → read_as to (read b) ≡ Cut → EndsInside SpellsTo b
  cut b fits e =
      elim (cases_reading (read b)) [
        | inl r ↦ let bad : read_as to (read b) ≡ Value (to r.0) r.1 = ap (read_as to) r.2 in absurd cc
        | inr (inl r) ↦ let h = code.cut b fits r in (to h.0, h.1, h.2, onward h.0 (b ++ h.1) h.3)
        | inr (inr r) ↦ let bad : read_as to (read b) ≡ Malformed = ap (read_as to) r in absurd cc
      ]

  stays : (b more : List ℕ) → IsBytes b → read_as to (read b) ≡ Malformed → read_as to (read (b ++ more)) ≡ Malformed
  stays b more fits e =
      elim (cases_reading (read b)) [
        | inl r ↦ let bad : read_as to (read b) ≡ Value (to r.0) r.1 = ap (read_as to) r.2 in absurd cc
        | inr (inl r) ↦ let bad : read_as to (read b) ≡ Cut = ap (read_as to) r in absurd cc
        | inr (inr r) ↦ ap (read_as to) (code.stays b more fits r)
      ]

-- ---- null

-- The bytes are those of null, or of a value.
abbrev pub SpellsOrNull : {A : Type 0} → (A → List ℕ → Type 0) → Option A → List ℕ → Type 0
SpellsOrNull Spells None bytes = bytes ≡ 0 ∷ []
SpellsOrNull Spells (Some a) bytes = Spells a bytes

module _ {A : Type 0} (Spells : A → List ℕ → Type 0) (read : List ℕ → Reading A) (at_zero : (others : List ℕ) → read (0 ∷ others) ≡ Malformed) (at_end : read [] ≡ Cut) (code : Recognises Spells read) where
  other : (b : ℕ) (bytes : List ℕ) → nat_eq b 0 ≡ false → null_or read (b ∷ bytes) ≡ read_as Some (read (b ∷ bytes))
  unfolding null_or
  other b bytes n = rw n refl

  null : (b : ℕ) (bytes : List ℕ) → nat_eq b 0 ≡ true → null_or read (b ∷ bytes) ≡ Value None 1
  unfolding null_or
  null b bytes y = rw y refl

  -- a value is read as it is, since it doesn't begin with the byte of null
  again_some : (v : A) (b : List ℕ) → (n : ℕ) → read b ≡ Value v n → null_or read b ≡ Value (Some v) n
  again_some v [] n e = absurd cc
  again_some v (x ∷ bytes) n e =
      elim (eqb_tells x 0) [
        | inl y ↦ let bad : read (x ∷ bytes) ≡ Malformed = ap (λ (z : ℕ). read (z ∷ bytes)) y.1 ∙ at_zero bytes in absurd cc
        | inr z ↦ other x bytes z.0 ∙ ap (read_as Some) e
      ]

  again : (v : Option A) (b more : List ℕ) → SpellsOrNull Spells v b → null_or read (b ++ more) ≡ Value v (length b)
  unfolding null_or
  again None b more s = rw s refl
  again (Some v) b more s = again_some v (b ++ more) (length b) (code.again v b more s)

  takes : (b : List ℕ) (v : Option A) (used : ℕ) → IsBytes b → null_or read b ≡ Value v used → (used ≤ length b) × SpellsOrNull Spells v (take used b)
  unfolding null_or
  takes [] v used fits e = absurd cc
  takes (x ∷ bytes) v used fits e =
      elim (eqb_tells x 0) [
        | inl y ↦
            let same : Value None 1 ≡ Value v used = sym (null x bytes y.0) ∙ e in
            let value : None ≡ v = cc in
            let count : 1 ≡ used = cc in
            let one : SpellsOrNull Spells None (take 1 (x ∷ bytes)) = ap (λ (z : ℕ). z ∷ []) y.1 in
            (omega arith, subst (λ (n : ℕ). SpellsOrNull Spells v (take n (x ∷ bytes))) count (subst (λ (w : Option A). SpellsOrNull Spells w (take 1 (x ∷ bytes))) value one))
        | inr n ↦
            elim (cases_reading (read (x ∷ bytes))) [
              | inl r ↦
                  let same : Value (Some r.0) r.1 ≡ Value v used = sym (other x bytes n.0 ∙ ap (read_as Some) r.2) ∙ e in
                  let value : Some r.0 ≡ v = cc in
                  let count : r.1 ≡ used = cc in
                  let t = code.takes (x ∷ bytes) r.0 r.1 fits r.2 in (
                    subst (λ (k : ℕ). k ≤ length (x ∷ bytes)) count t.0,
                    subst (λ (k : ℕ). SpellsOrNull Spells v (take k (x ∷ bytes))) count (subst (λ (w : Option A). SpellsOrNull Spells w (take r.1 (x ∷ bytes))) value t.1),
                  )
              | inr (inl r) ↦ let bad : null_or read (x ∷ bytes) ≡ Cut = other x bytes n.0 ∙ ap (read_as Some) r in absurd cc
              | inr (inr r) ↦ let bad : null_or read (x ∷ bytes) ≡ Malformed = other x bytes n.0 ∙ ap (read_as Some) r in absurd cc
            ]
      ]

  cut : (b : List ℕ) → IsBytes b → null_or read b ≡ Cut → EndsInside (SpellsOrNull Spells) b
  cut [] fits e = (None, 0 ∷ [], omega arith, refl)
  cut (x ∷ bytes) fits e =
      elim (eqb_tells x 0) [
        | inl y ↦ let bad = null x bytes y.0 in absurd cc
        | inr n ↦
            elim (cases_reading (read (x ∷ bytes))) [
              | inl r ↦ let bad : null_or read (x ∷ bytes) ≡ Value (Some r.0) r.1 = other x bytes n.0 ∙ ap (read_as Some) r.2 in absurd cc
              | inr (inl r) ↦ let h = code.cut (x ∷ bytes) fits r in (Some h.0, h.1, h.2, h.3)
              | inr (inr r) ↦ let bad : null_or read (x ∷ bytes) ≡ Malformed = other x bytes n.0 ∙ ap (read_as Some) r in absurd cc
            ]
      ]

  stays : (b more : List ℕ) → IsBytes b → null_or read b ≡ Malformed → null_or read (b ++ more) ≡ Malformed
  unfolding null_or
  stays [] more fits e = absurd cc
  stays (x ∷ bytes) more fits e =
      elim (eqb_tells x 0) [
        | inl y ↦ let bad = null x bytes y.0 in absurd cc
        | inr n ↦
            elim (cases_reading (read (x ∷ bytes))) [
              | inl r ↦ let bad : null_or read (x ∷ bytes) ≡ Value (Some r.0) r.1 = other x bytes n.0 ∙ ap (read_as Some) r.2 in absurd cc
              | inr (inl r) ↦ let bad : null_or read (x ∷ bytes) ≡ Cut = other x bytes n.0 ∙ ap (read_as Some) r in absurd cc
              | inr (inr r) ↦ other x (bytes ++ more) n.0 ∙ ap (read_as Some) (code.stays (x ∷ bytes) more fits r)
            ]
      ]

  pub null_code : Recognises (SpellsOrNull Spells) (null_or read)
  null_code = record { again = again; takes = takes; cut = cut; stays = stays }

-- ---- values of one width

-- a reader that takes `width` bytes, whatever they are
module _ {A : Type 0} (Spells : A → List ℕ → Type 0) (read : List ℕ → Reading A) (width : ℕ) (value : List ℕ → A)
    (is_cut : (b : List ℕ) → length b < width → read b ≡ Cut) (is_value : (b : List ℕ) → width ≤ length b → read b ≡ Value (value (take width b)) width)
    (spelled : (b : List ℕ) → IsBytes b → length b ≡ width → Spells (value b) b) (unspelled : (v : A) (b : List ℕ) → Spells v b → (length b ≡ width) × (value b ≡ v)) where
  again_width : (v : A) (b more : List ℕ) → Spells v b → read (b ++ more) ≡ Value v (length b)
  again_width v b more s =
      let u = unspelled v b s in
      let long : width ≤ length (b ++ more) = omega (arith, u.0, length-append b more) in
      let front : take width (b ++ more) ≡ b = take_at b more width u.0 in
      is_value (b ++ more) long ∙ ap (λ (l : List ℕ). Value (value l) width) front ∙ ap (λ (w : A). Value w width) u.1 ∙ ap (λ (n : ℕ). Value v n) (sym u.0)

  takes_width : (b : List ℕ) (v : A) (used : ℕ) → IsBytes b → read b ≡ Value v used → (used ≤ length b) × Spells v (take used b)
  takes_width b v used fits e =
      elim (cases_lt (length b) width) [
        | inl lt ↦ let bad = is_cut b lt in absurd cc
        | inr long ↦
            let same : Value (value (take width b)) width ≡ Value v used = sym (is_value b long) ∙ e in
            let is : value (take width b) ≡ v = cc in
            let count : width ≡ used = cc in
            let s = spelled (take width b) (IsBytes-take width b fits) (omega (arith, length-take width b, long)) in
            (omega (arith, count, long), subst (λ (n : ℕ). Spells v (take n b)) count (subst (λ (w : A). Spells w (take width b)) is s))
      ]

  cut_width : (b : List ℕ) → IsBytes b → read b ≡ Cut → EndsInside Spells b
  cut_width b fits e =
      elim (cases_lt (length b) width) [
        | inl lt ↦
            let n : ℕ = width - length b in
            let zeros : List ℕ = replicate n 0 in
            let count : length zeros ≡ n = length-replicate {A = ℕ} n 0 in
            let len : length (b ++ zeros) ≡ width = omega (arith, length-append b zeros, count) in
            (value (b ++ zeros), zeros, omega (arith, count), spelled (b ++ zeros) (IsBytes-append b zeros fits (zero_bytes n)) len)
        | inr long ↦ let bad = is_value b long in absurd cc
      ] where
        zero_bytes : (n : ℕ) → IsBytes (replicate n 0)
        zero_bytes zero i = omega arith
        zero_bytes (suc n) zero = omega arith
        zero_bytes (suc n) (suc i) = zero_bytes n i

  stays_width : (b more : List ℕ) → IsBytes b → read b ≡ Malformed → read (b ++ more) ≡ Malformed
  stays_width b more fits e =
      elim (cases_lt (length b) width) [
        | inl lt ↦ let bad = is_cut b lt in absurd cc
        | inr long ↦ let bad = is_value b long in absurd cc
      ]

  pub width_code : Recognises Spells read
  width_code = record { again = again_width; takes = takes_width; cut = cut_width; stays = stays_width }

-- ---- GUIDs

guid_of : List ℕ → Guid
guid_of b = record { number = guid_number b }

pub guid_code : Recognises SpellsGuid guid_at
unfolding guid_at guid_of
guid_code = width_code SpellsGuid guid_at 16 guid_of
    (λ b lt. rw (lt-ltb (length b) 16 lt) refl)
    (λ b long. rw (le-ltb (length b) 16 long) refl)
    (λ b fits len. record { range = guid_number_below b fits; bytes_are = sym (guid_back b len fits) })
    (λ v b s. (ap (λ (l : List ℕ). length l) s.bytes_are, unspelled v b s)) where
      unspelled : (v : Guid) (b : List ℕ) → SpellsGuid v b → guid_of b ≡ v
      unspelled v b s =
          let make : ℕ → Guid = λ n. record { number = n } in
          ap make (ap guid_number s.bytes_are ∙ guid_again v.number s.range)

-- ---- numbers of 8 bytes

pub long_code : Recognises SpellsLong long_at
unfolding long_at
long_code = width_code SpellsLong long_at 8 number_of
    (λ b lt. rw (lt-ltb (length b) 8 lt) refl)
    (λ b long. rw (le-ltb (length b) 8 long) refl)
    spelled
    (λ v b s. (ap (λ (l : List ℕ). length l) s.bytes_are ∙ length-little_endian 8 v, ap number_of s.bytes_are ∙ number_of-little_endian 8 v (omega (arith, s.range)))) where
      spelled : (b : List ℕ) → IsBytes b → length b ≡ 8 → SpellsLong (number_of b) b
      spelled b fits len =
          let small : number_of b < 256 ^ 8 = subst (λ (n : ℕ). number_of b < 256 ^ n) len (number_of_below b fits) in
          record { range = omega arith; bytes_are = sym (ap (λ (n : ℕ). little_endian n (number_of b)) (sym len) ∙ little_endian-number_of b fits) }

-- ---- the mark of a serial number

abbrev SpellsMark : Unit {0} → List ℕ → Type 0
SpellsMark v bytes = bytes ≡ 128 ∷ []

mark_code : Recognises SpellsMark mark_at
unfolding mark_at
mark_code = record { again = again; takes = takes; cut = cut; stays = stays } where
  again : (v : Unit {0}) (b more : List ℕ) → SpellsMark v b → mark_at (b ++ more) ≡ Value v (length b)
  again v b more s = rw s refl

  takes : (b : List ℕ) (v : Unit {0}) (used : ℕ) → IsBytes b → mark_at b ≡ Value v used → (used ≤ length b) × SpellsMark v (take used b)
  takes [] v used fits e = absurd cc
  takes (x ∷ bytes) v used fits e =
      elim (eqb_tells x 128) [
        | inl y ↦
            let marked : mark_at (x ∷ bytes) ≡ Value tt 1 = rw y.0 refl in
            let same : Value tt 1 ≡ Value v used = sym marked ∙ e in
            let count : 1 ≡ used = cc in
            (omega arith, subst (λ (n : ℕ). take n (x ∷ bytes) ≡ 128 ∷ []) count (ap (λ (z : ℕ). z ∷ []) y.1))
        | inr n ↦ let bad = rw n.0 at e in absurd cc
      ]

  cut : (b : List ℕ) → IsBytes b → mark_at b ≡ Cut → EndsInside SpellsMark b
  cut [] fits e = (tt, 128 ∷ [], omega arith, refl)
  cut (x ∷ bytes) fits e =
      elim (eqb_tells x 128) [
        | inl y ↦ let bad = rw y.0 at e in absurd cc
        | inr n ↦ let bad = rw n.0 at e in absurd cc
      ]

  stays : (b more : List ℕ) → IsBytes b → mark_at b ≡ Malformed → mark_at (b ++ more) ≡ Malformed
  stays [] more fits e = absurd cc
  stays (x ∷ bytes) more fits e = e

-- ---- extended GUIDs

value_and_guid : Recognises (SpellsBoth SpellsValue SpellsGuid) (read_both exguid_value_at guid_at)
value_and_guid = both_code SpellsValue SpellsGuid exguid_value_at guid_at value_code guid_code (record { number = 0 }) (guid_bytes 0) (record { range = omega arith; bytes_are = refl })

id_at_zero : (others : List ℕ) → read_both exguid_value_at guid_at (0 ∷ others) ≡ Malformed
id_at_zero others = rw (value_at_zero others) refl

id_at_end : read_both exguid_value_at guid_at [] ≡ Cut
id_at_end = rw value_at_end refl

of_exguid : ExGuid → Option (ℕ × Guid)
of_exguid exguids.Null = None
of_exguid (exguids.Id guid value) = Some (value, guid)

pub exguid_code : Recognises SpellsExGuid exguid_at
unfolding exguid_at of_exguid
exguid_code = as_code (SpellsOrNull (SpellsBoth SpellsValue SpellsGuid)) (null_or (read_both exguid_value_at guid_at)) SpellsExGuid to_exguid of_exguid there onward backward
    (null_code (SpellsBoth SpellsValue SpellsGuid) (read_both exguid_value_at guid_at) id_at_zero id_at_end value_and_guid) where
      there : (b : ExGuid) → to_exguid (of_exguid b) ≡ b
      there exguids.Null = refl
      there (exguids.Id guid value) = refl

      onward : (a : Option (ℕ × Guid)) (bytes : List ℕ) → SpellsOrNull (SpellsBoth SpellsValue SpellsGuid) a bytes → SpellsExGuid (to_exguid a) bytes
      onward None bytes s = record { range = tt; bytes_are = s }
      onward (Some x) bytes s = record {
        range = (s.second.range, s.first.range);
        bytes_are = s.bytes_are ∙ ap (λ (l : List ℕ). l ++ s.back) s.first.bytes_are ∙ ap (λ (l : List ℕ). exguid_value x.0 ++ l) s.second.bytes_are;
      }

      backward : (b : ExGuid) (bytes : List ℕ) → SpellsExGuid b bytes → SpellsOrNull (SpellsBoth SpellsValue SpellsGuid) (of_exguid b) bytes
      backward exguids.Null bytes s = s.bytes_are
      backward (exguids.Id guid value) bytes s = record {
        front = exguid_value value;
        back = guid_bytes guid.number;
        first = record { range = s.range.1; bytes_are = refl };
        second = record { range = s.range.0; bytes_are = refl };
        bytes_are = s.bytes_are;
      }

-- ---- serial numbers

abbrev SpellsNumber : Unit {0} × (Guid × ℕ) → List ℕ → Type 0
SpellsNumber = SpellsBoth SpellsMark (SpellsBoth SpellsGuid SpellsLong)

guid_and_long : Recognises (SpellsBoth SpellsGuid SpellsLong) (read_both guid_at long_at)
guid_and_long = both_code SpellsGuid SpellsLong guid_at long_at guid_code long_code 0 (little_endian 8 0) (record { range = omega arith; bytes_are = refl })

number_code : Recognises SpellsNumber (read_both mark_at (read_both guid_at long_at))
number_code = both_code SpellsMark (SpellsBoth SpellsGuid SpellsLong) mark_at (read_both guid_at long_at) mark_code guid_and_long (record { number = 0 }, 0) (guid_bytes 0 ++ little_endian 8 0)
    (record { front = guid_bytes 0; back = little_endian 8 0; first = record { range = omega arith; bytes_are = refl }; second = record { range = omega arith; bytes_are = refl }; bytes_are = refl })

number_at_zero : (others : List ℕ) → read_both mark_at (read_both guid_at long_at) (0 ∷ others) ≡ Malformed
unfolding mark_at
number_at_zero others = refl

number_at_end : read_both mark_at (read_both guid_at long_at) [] ≡ Cut
unfolding mark_at
number_at_end = refl

of_serial : Serial → Option (Unit {0} × (Guid × ℕ))
of_serial serials.Null = None
of_serial (serials.Number guid value) = Some (tt, (guid, value))

pub serial_code : Recognises SpellsSerial serial_at
unfolding serial_at of_serial
serial_code = as_code (SpellsOrNull SpellsNumber) (null_or (read_both mark_at (read_both guid_at long_at))) SpellsSerial to_serial of_serial there onward backward
    (null_code SpellsNumber (read_both mark_at (read_both guid_at long_at)) number_at_zero number_at_end number_code) where
      there : (b : Serial) → to_serial (of_serial b) ≡ b
      there serials.Null = refl
      there (serials.Number guid value) = refl

      onward : (a : Option (Unit {0} × (Guid × ℕ))) (bytes : List ℕ) → SpellsOrNull SpellsNumber a bytes → SpellsSerial (to_serial a) bytes
      onward None bytes s = record { range = tt; bytes_are = s }
      onward (Some x) bytes s =
          let inner : s.back ≡ guid_bytes x.1.0.number ++ little_endian 8 x.1.1 = s.second.bytes_are ∙ ap (λ (l : List ℕ). l ++ s.second.back) s.second.first.bytes_are
          ∙ ap (λ (l : List ℕ). guid_bytes x.1.0.number ++ l) s.second.second.bytes_are in
          record {
            range = (s.second.first.range, s.second.second.range);
            bytes_are = s.bytes_are ∙ ap (λ (l : List ℕ). l ++ s.back) s.first ∙ ap (λ (l : List ℕ). 128 ∷ l) inner;
          }

      backward : (b : Serial) (bytes : List ℕ) → SpellsSerial b bytes → SpellsOrNull SpellsNumber (of_serial b) bytes
      backward serials.Null bytes s = s.bytes_are
      backward (serials.Number guid value) bytes s = record {
        front = 128 ∷ [];
        back = guid_bytes guid.number ++ little_endian 8 value;
        first = refl;
        second = record {
          front = guid_bytes guid.number;
          back = little_endian 8 value;
          first = record { range = s.range.0; bytes_are = refl };
          second = record { range = s.range.1; bytes_are = refl };
          bytes_are = refl;
        };
        bytes_are = s.bytes_are;
      }

-- ---- readers that only run short

pub guid_at-forms : (b : List ℕ) → guid_at b ≢ Malformed
unfolding guid_at
guid_at-forms b e =
    elim (cases_lt (length b) 16) [
      | inl lt ↦ let bad = rw (lt-ltb (length b) 16 lt) at e in absurd cc
      | inr long ↦ let bad = rw (le-ltb (length b) 16 long) at e in absurd cc
    ]

pub long_at-forms : (b : List ℕ) → long_at b ≢ Malformed
unfolding long_at
long_at-forms b e =
    elim (cases_lt (length b) 8) [
      | inl lt ↦ let bad = rw (lt-ltb (length b) 8 lt) at e in absurd cc
      | inr long ↦ let bad = rw (le-ltb (length b) 8 long) at e in absurd cc
    ]

-- ---- a serial number whose fields run short

guid_and_long-forms : (b : List ℕ) → read_both guid_at long_at b ≢ Malformed
guid_and_long-forms b e = go (guid_at b) refl e where
  behind : (a : Guid) (used : ℕ) (r : Reading ℕ) → r ≢ Malformed → read_behind a used r ≢ Malformed
  behind a used (Value v more) never f = absurd cc
  behind a used Cut never f = absurd cc
  behind a used Malformed never f = never refl

  go : (r : Reading Guid) → guid_at b ≡ r → read_then r long_at b ≢ Malformed
  go (Value a used) d f = behind a used (long_at (drop used b)) (long_at-forms (drop used b)) f
  go Cut d f = absurd cc
  go Malformed d f = guid_at-forms b d

pub serial_fault : (bytes : List ℕ) (at : ℕ) (rest : List ℕ) (fault : ValueFault) → drop at bytes ≡ 128 ∷ rest
    → Err fault ≡ answer_at (length bytes) (at + 1) (read_both guid_at long_at (drop (at + 1) bytes)) → Err fault ≡ answer_at (length bytes) at (serial_at (drop at bytes))
unfolding serial_at mark_at
serial_fault bytes at rest fault d e =
    let number : List ℕ → Reading (Unit {0} × (Guid × ℕ)) = read_both mark_at (read_both guid_at long_at) in
    let marked : mark_at (drop at bytes) ≡ Value tt 1 = rw d refl in
    let some : null_or number (drop at bytes) ≡ read_as Some (number (drop at bytes)) = rw d (not_null number 128 rest (λ z. absurd (omega arith))) in
    as_fault to_serial (length bytes) at (null_or number (drop at bytes)) fault (
    rw some (
    as_fault Some (length bytes) at (number (drop at bytes)) fault
    (second_fault mark_at (read_both guid_at long_at) bytes at tt (at + 1) 1 marked refl fault guid_and_long-forms e)
    )
    )
