-- Numbers in fields of a form: the laws of their reading, for any row of a table.
use Rattle.std.proofs.Common.{◌≡◌, ℕ, zero, suc, ◌+◌, ◌*◌, ◌-◌, ◌/◌, ◌%◌, ◌^◌, ◌<◌, ◌≤◌, inl, inr, List, [], ◌∷◌, ◌++◌, length, take, refl, sym, ap, subst, ◌∙◌, append_assoc, arith}
use Rattle.std.specs.Prelude.{replicate}
use Rattle.std.proofs.Math.ListN.{get_or-append}
use Rattle.std.proofs.Math.Seq.{get_or-append_right}
use Rattle.std.proofs.lemmas.Bool.{cases_lt, le-ltb, lt-ltb}
use Rattle.std.proofs.lemmas.List.{take_at, take-append-le, length-append, length-take, length-replicate, get_or-take, get_or_past}
use Rattle.compact_values.specs.Spelled.{EndsInside}
use Rattle.compact_values.specs.Compact.{little_endian}
use Rattle.compact_values.specs.Reading.{Value, Cut, Malformed, number_of, in_form}
use Rattle.compact_values.specs.declared.form.Form.{Form}
use Rattle.compact_values.proofs.LittleEndian.{IsBytes, length-little_endian, number_of-little_endian, little_endian-number_of, number_of_below, number_of-append}

-- ---- lists of bytes

pub IsBytes-append : (xs ys : List ℕ) → IsBytes xs → IsBytes ys → IsBytes (xs ++ ys)
IsBytes-append xs ys p q i =
    elim (cases_lt i (length xs)) [
      | inl lt ↦ rw (get_or-append xs ys 0 i lt) (p i)
      | inr le ↦ rw (get_or-append_right xs ys i 0 le) (q (i - length xs))
    ]

pub IsBytes-take : (n : ℕ) (bytes : List ℕ) → IsBytes bytes → IsBytes (take n bytes)
IsBytes-take n bytes h i =
    elim (cases_lt i n) [
      | inl lt ↦ rw (get_or-take n bytes i 0 lt) (h i)
      | inr le ↦ rw (get_or_past (take n bytes) i 0 (omega (arith, length-take n bytes))) (omega arith)
    ]

IsBytes-zeros : (n : ℕ) → IsBytes (replicate n 0)
IsBytes-zeros zero i = omega arith
IsBytes-zeros (suc n) zero = omega arith
IsBytes-zeros (suc n) (suc i) = IsBytes-zeros n i

IsBytes-last : IsBytes (255 ∷ [])
IsBytes-last zero = omega arith
IsBytes-last (suc i) = omega arith

-- ---- one form

abbrev pub number_at : Form → List ℕ → ℕ
number_at f bytes = number_of (take f.width bytes) / 2 ^ f.shift

pub in_form_value : (f : Form) (bytes : List ℕ) → f.width ≤ length bytes → f.least ≤ number_at f bytes → in_form f bytes ≡ Value (number_at f bytes) f.width
in_form_value f bytes long lo = rw (le-ltb (length bytes) f.width long, le-ltb (number_at f bytes) f.least lo) refl

in_form_malformed : (f : Form) (bytes : List ℕ) → f.width ≤ length bytes → number_at f bytes < f.least → in_form f bytes ≡ Malformed
in_form_malformed f bytes long lo = rw (le-ltb (length bytes) f.width long, lt-ltb (number_at f bytes) f.least lo) refl

in_form_cut : (f : Form) (bytes : List ℕ) → length bytes < f.width → in_form f bytes ≡ Cut
in_form_cut f bytes lt = rw (lt-ltb (length bytes) f.width lt) refl

pub record WasValue (f : Form) (bytes : List ℕ) (v used : ℕ) : Type 0 where
  pub long : f.width ≤ length bytes
  pub number : v ≡ number_at f bytes
  pub lo : f.least ≤ v
  pub all : used ≡ f.width

pub was_value : (f : Form) (bytes : List ℕ) (v used : ℕ) → in_form f bytes ≡ Value v used → WasValue f bytes v used
was_value f bytes v used e =
    elim (cases_lt (length bytes) f.width) [
      | inl lt ↦ let cut = in_form_cut f bytes lt in absurd cc
      | inr long ↦
          elim (cases_lt (number_at f bytes) f.least) [
            | inl lt ↦ let bad = in_form_malformed f bytes long lt in absurd cc
            | inr lo ↦
                let ok = in_form_value f bytes long lo in
                let number : v ≡ number_at f bytes = cc in
                record { long = long; number = number; lo = omega arith; all = cc }
          ]
    ]

pub was_cut : (f : Form) (bytes : List ℕ) → in_form f bytes ≡ Cut → length bytes < f.width
was_cut f bytes e =
    elim (cases_lt (length bytes) f.width) [
      | inl lt ↦ lt
      | inr long ↦
          elim (cases_lt (number_at f bytes) f.least) [
            | inl lt ↦ let bad = in_form_malformed f bytes long lt in absurd cc
            | inr lo ↦ let ok = in_form_value f bytes long lo in absurd cc
          ]
    ]

-- what is malformed stays so
pub stays_in_form : (f : Form) (bytes more : List ℕ) → in_form f bytes ≡ Malformed → in_form f (bytes ++ more) ≡ Malformed
stays_in_form f bytes more e =
    elim (cases_lt (length bytes) f.width) [
      | inl lt ↦ let cut = in_form_cut f bytes lt in absurd cc
      | inr long ↦
          elim (cases_lt (number_at f bytes) f.least) [
            | inl lt ↦
                let same : number_at f (bytes ++ more) ≡ number_at f bytes = ap (λ (b : List ℕ). number_of b / 2 ^ f.shift) (take-append-le f.width bytes more long) in
                in_form_malformed f (bytes ++ more) (omega (arith, length-append bytes more)) (omega arith)
            | inr lo ↦ let ok = in_form_value f bytes long lo in absurd cc
          ]
    ]

-- ---- one row of a table

-- how many bytes behind the first; what the number is multiplied by; the low bits that are added; the range; how far a reader shifts
pub record Field : Type 0 where
  pub more_bytes : ℕ
  pub factor : ℕ
  pub mark : ℕ
  pub least : ℕ
  pub limit : ℕ
  pub shift : ℕ

abbrev pub packed : Field → ℕ → ℕ
packed f v = f.factor * v + f.mark

abbrev pub form : Field → Form
form f = record { width = suc f.more_bytes; shift = f.shift; least = f.least }

pub record Arithmetic (f : Field) : Type 0 where
  pub fits : (v : ℕ) → v < f.limit → packed f v < 256 ^ suc f.more_bytes
  pub value : (v : ℕ) → packed f v / 2 ^ f.shift ≡ v
  pub marked : (v : ℕ) → packed f v % 256 % f.factor ≡ f.mark
  pub whole : (n : ℕ) → n % f.factor ≡ f.mark → packed f (n / 2 ^ f.shift) ≡ n
  pub below : (n : ℕ) → n < 256 ^ suc f.more_bytes → n / 2 ^ f.shift < f.limit
  pub first : (b m : ℕ) → (b + 256 * m) % f.factor ≡ b % f.factor
  pub long : (m : ℕ) → 0 < f.more_bytes → f.least ≤ (m + 256 ^ f.more_bytes * 255) / 2 ^ f.shift

-- The bytes are the row's spelling of the number.
pub record SpellsField (f : Field) (v : ℕ) (bytes : List ℕ) : Type 0 where
  pub lo : f.least ≤ v
  pub hi : v < f.limit
  pub bytes_are : bytes ≡ little_endian (suc f.more_bytes) (packed f v)

module _ (f : Field) (row : Arithmetic f) where
  pub again_field : (v : ℕ) (more : List ℕ) → f.least ≤ v → v < f.limit → in_form (form f) (little_endian (suc f.more_bytes) (packed f v) ++ more) ≡ Value v (suc f.more_bytes)
  again_field v more lo hi =
      let n = packed f v in
      let width = suc f.more_bytes in
      let bytes = little_endian width n ++ more in
      let number : number_of (take width bytes) ≡ n = ap (λ (b : List ℕ). number_of b) (take_at (little_endian width n) more width (length-little_endian width n)) ∙ number_of-little_endian width n (row.fits v hi) in
      let value : number_at (form f) bytes ≡ v = ap (λ (m : ℕ). m / 2 ^ f.shift) number ∙ row.value v in
      let long : width ≤ length bytes = omega (arith, length-append (little_endian width n) more, length-little_endian width n) in
      in_form_value (form f) bytes long (omega arith) ∙ ap (λ (m : ℕ). Value m width) value

  spells_field : (first : ℕ) (others : List ℕ) → IsBytes (first ∷ others) → first % f.factor ≡ f.mark → length (first ∷ others) ≡ suc f.more_bytes
      → f.least ≤ number_of (first ∷ others) / 2 ^ f.shift → SpellsField f (number_of (first ∷ others) / 2 ^ f.shift) (first ∷ others)
  spells_field first others fits named len lo =
      let n = number_of (first ∷ others) in
      let small : n < 256 ^ suc f.more_bytes = subst (λ (k : ℕ). n < 256 ^ k) len (number_of_below (first ∷ others) fits) in
      let marked = row.first first (number_of others) ∙ named in
      record {
        lo = lo;
        hi = row.below n small;
        bytes_are =
            sym (ap (λ (m : ℕ). little_endian (suc f.more_bytes) m) (row.whole n marked) ∙ ap (λ (k : ℕ). little_endian k n) (sym len)
            ∙ little_endian-number_of (first ∷ others) fits);
      }

  pub takes_field : (first : ℕ) (others : List ℕ) (v used : ℕ) → IsBytes (first ∷ others) → first % f.factor ≡ f.mark → in_form (form f) (first ∷ others) ≡ Value v used
      → (used ≤ length (first ∷ others)) × SpellsField f v (take used (first ∷ others))
  takes_field first others v used fits named e =
      let was = was_value (form f) (first ∷ others) v used e in
      let part = take f.more_bytes others in
      let len : length (first ∷ part) ≡ suc f.more_bytes = omega (arith, length-take f.more_bytes others, was.long) in
      let s = spells_field first part (IsBytes-take (suc f.more_bytes) (first ∷ others) fits) named len (subst (λ (n : ℕ). f.least ≤ n) was.number was.lo) in (
        omega (arith, was.long, was.all),
        subst (λ (k : ℕ). SpellsField f v (take k (first ∷ others))) (sym was.all) (subst (λ (n : ℕ). SpellsField f n (first ∷ part)) (sym was.number) s),
      )

  -- fewer bytes than the row has go on with zeros and a high byte
  pub cut_field : (first : ℕ) (others : List ℕ) → IsBytes (first ∷ others) → first % f.factor ≡ f.mark → in_form (form f) (first ∷ others) ≡ Cut
      → EndsInside (SpellsField f) (first ∷ others)
  cut_field first others fits named e =
      let short = was_cut (form f) (first ∷ others) e in
      let zeros : List ℕ = replicate (f.more_bytes - length (first ∷ others)) 0 in
      let more = zeros ++ 255 ∷ [] in
      let front = first ∷ (others ++ zeros) in
      let front_len : length front ≡ f.more_bytes = omega (arith, length-append others zeros, length-replicate {A = ℕ} (f.more_bytes - length (first ∷ others)) 0) in
      let whole : front ++ 255 ∷ [] ≡ first ∷ (others ++ more) = append_assoc (first ∷ others) zeros (255 ∷ []) in
      let len : length (first ∷ (others ++ more)) ≡ suc f.more_bytes = omega (arith, ap (λ (b : List ℕ). length b) whole, length-append front (255 ∷ []), front_len) in
      let number : number_of (first ∷ (others ++ more)) ≡ number_of front + 256 ^ f.more_bytes * 255 =
      ap (λ (b : List ℕ). number_of b) (sym whole) ∙ number_of-append front (255 ∷ []) ∙ ap (λ (k : ℕ). number_of front + 256 ^ k * 255) front_len in
      let lo : f.least ≤ number_of (first ∷ (others ++ more)) / 2 ^ f.shift =
      subst (λ (n : ℕ). f.least ≤ n / 2 ^ f.shift) (sym number) (row.long (number_of front) (omega arith)) in
      let all : IsBytes (first ∷ (others ++ more)) = IsBytes-append (first ∷ others) more fits (IsBytes-append zeros (255 ∷ []) (IsBytes-zeros _) IsBytes-last) in (
        number_of (first ∷ (others ++ more)) / 2 ^ f.shift,
        more,
        omega (arith, length-append zeros (255 ∷ [])),
        spells_field first (others ++ more) all named len lo,
      )
