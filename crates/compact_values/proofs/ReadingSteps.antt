-- What readers at places answer for values that are read in steps.
use Rattle.std.proofs.Common.{◌≡◌, ◌≢◌, ℕ, zero, suc, [], ◌∷◌, ◌+◌, ◌-◌, ◌≤◌, List, length, take, drop, Some, Ok, Err, refl, sym, ap, ◌∙◌, arith}
use Rattle.std.proofs.lemmas.List.{length-drop, drop_all}
use Rattle.std.specs.List.{slice_get}
use Rattle.std.proofs.Math.Seq.{take-length}
use Rattle.std.proofs.lemmas.Bool.{ne_eqb}
use Rattle.compact_values.specs.Both.{read_behind, read_both}
use Rattle.compact_values.specs.IdReading.{read_as, null_or}
use Rattle.compact_values.specs.Reading.{Reading, Value, Cut, Malformed, answer_at}
use Rattle.compact_values.specs.declared.fault.ValueFault.{ValueFault}
use Rattle.compact_values.proofs.LittleEndian.{IsBytes}
use Rattle.compact_values.proofs.Codes.{Recognises, IsBytes-drop}

-- ---- one value

-- the place behind a value that was found is within the input, and the value is spelled there
pub record WasFound {V : Type 0} (Spells : V → List ℕ → Type 0) (read : List ℕ → Reading V) (bytes : List ℕ) (at : ℕ) (v : V) (next : ℕ) : Type 0 where
  pub used : ℕ
  pub is : read (drop at bytes) ≡ Value v used
  pub next_is : next ≡ at + used
  pub inside : next ≤ length bytes
  pub front : List ℕ
  pub spelled : Spells v front

found_in : {V : Type 0} (Spells : V → List ℕ → Type 0) (read : List ℕ → Reading V) → Recognises Spells read → (bytes : List ℕ) (at : ℕ) → at ≤ length bytes → IsBytes bytes
    → (v : V) (next : ℕ) (r : Reading V) → read (drop at bytes) ≡ r → Ok (v, next) ≡ answer_at (length bytes) at r → WasFound Spells read bytes at v next
found_in {V} Spells read code bytes at le fits v next (Value w used) e ok =
    let pair : ◌≡◌ {A = V × ℕ} (v, next) (w, at + used) = cc in
    let value : v ≡ w = ap (λ (p : V × ℕ). p.0) pair in
    let place : next ≡ at + used = ap (λ (p : V × ℕ). p.1) pair in
    let t = code.takes (drop at bytes) w used (IsBytes-drop at bytes fits) e in
    record {
      used = used;
      is = e ∙ ap (λ (x : V). Value x used) (sym value);
      next_is = place;
      inside = omega (arith, t.0, place, length-drop at bytes);
      front = take used (drop at bytes);
      spelled = rw value t.1;
    }
found_in Spells read code bytes at le fits v next Cut e ok = absurd cc
found_in Spells read code bytes at le fits v next Malformed e ok = absurd cc

pub was_found : {V : Type 0} (Spells : V → List ℕ → Type 0) (read : List ℕ → Reading V) → Recognises Spells read → (bytes : List ℕ) (at : ℕ) → at ≤ length bytes → IsBytes bytes
    → (v : V) (next : ℕ) → Ok (v, next) ≡ answer_at (length bytes) at (read (drop at bytes)) → WasFound Spells read bytes at v next
was_found Spells read code bytes at le fits v next e = found_in Spells read code bytes at le fits v next (read (drop at bytes)) refl e

-- ---- a value of another type

pub as_found : {A B : Type 0} (to : A → B) (len at : ℕ) (r : Reading A) (a : A) (next : ℕ) → Ok (a, next) ≡ answer_at len at r → Ok (to a, next) ≡ answer_at len at (read_as to r)
as_found {A} {B} to len at (Value b used) a next e =
    let pair : ◌≡◌ {A = A × ℕ} (a, next) (b, at + used) = cc in
    ap (λ (p : A × ℕ). Ok (to p.0, p.1)) pair
as_found to len at Cut a next e = absurd cc
as_found to len at Malformed a next e = absurd cc

pub as_fault : {A B : Type 0} (to : A → B) (len at : ℕ) (r : Reading A) (fault : ValueFault) → Err fault ≡ answer_at len at r → Err fault ≡ answer_at len at (read_as to r)
as_fault to len at (Value b used) fault e = absurd cc
as_fault to len at Cut fault e = cc
as_fault to len at Malformed fault e = cc

-- ---- two values

pub drop-both : (m n : ℕ) (bytes : List ℕ) → drop (m + n) bytes ≡ drop n (drop m bytes)
drop-both zero n bytes = let none : 0 + n ≡ n = omega arith in rw none refl
drop-both (suc m) n [] = rw (drop_all {X = ℕ} n [] (omega arith), drop_all {X = ℕ} (suc m + n) [] (omega arith)) refl
drop-both (suc m) n (b ∷ bytes) =
    let more : suc m + n ≡ suc (m + n) = omega arith in
    rw more (drop-both m n bytes)

module _ {A B : Type 0} (first : List ℕ → Reading A) (second : List ℕ → Reading B) (bytes : List ℕ) (at : ℕ) where
  abbrev both : Reading (A × B)
  both = read_both first second (drop at bytes)

  first_fault_by : (r : Reading A) (fault : ValueFault) → first (drop at bytes) ≡ r → Err fault ≡ answer_at (length bytes) at r → Err fault ≡ answer_at (length bytes) at both
  first_fault_by (Value a used) fault e f = absurd cc
  first_fault_by Cut fault e f = rw e cc
  first_fault_by Malformed fault e f = rw e cc

  pub first_fault : (fault : ValueFault) → Err fault ≡ answer_at (length bytes) at (first (drop at bytes)) → Err fault ≡ answer_at (length bytes) at both
  first_fault fault e = first_fault_by (first (drop at bytes)) fault refl e

  second_fault_by : (a : A) (used : ℕ) (r : Reading B) (fault : ValueFault) → r ≢ Malformed → Err fault ≡ answer_at (length bytes) (at + used) r → Err fault ≡ answer_at (length bytes) at (read_behind a used r)
  second_fault_by a used (Value b more) fault never e = absurd cc
  second_fault_by a used Cut fault never e = cc
  second_fault_by a used Malformed fault never e = absurd (never refl)

  second_found_by : (a : A) (used : ℕ) (r : Reading B) (b : B) (end : ℕ) → Ok (b, end) ≡ answer_at (length bytes) (at + used) r → Ok ((a, b), end) ≡ answer_at (length bytes) at (read_behind a used r)
  second_found_by a used (Value c more) b end e =
      let pair : ◌≡◌ {A = B × ℕ} (b, end) (c, at + used + more) = cc in
      let place : at + used + more ≡ at + (used + more) = omega arith in
      ap (λ (p : B × ℕ). Ok ((a, p.0), p.1)) pair ∙ ap (λ (n : ℕ). Ok ((a, c), n)) place
  second_found_by a used Cut b end e = absurd cc
  second_found_by a used Malformed b end e = absurd cc

  module _ (a : A) (next used : ℕ) (is : first (drop at bytes) ≡ Value a used) (next_is : next ≡ at + used) where
    behind : drop next bytes ≡ drop used (drop at bytes)
    behind = ap (λ (n : ℕ). drop n bytes) next_is ∙ drop-both at used bytes

    pub second_fault : (fault : ValueFault) → ((b : List ℕ) → second b ≢ Malformed) → Err fault ≡ answer_at (length bytes) next (second (drop next bytes)) → Err fault ≡ answer_at (length bytes) at both
    second_fault fault never e = rw is (second_fault_by a used (second (drop used (drop at bytes))) fault (never _) (rw (← behind, ← next_is) e))

    pub second_found : (b : B) (end : ℕ) → Ok (b, end) ≡ answer_at (length bytes) next (second (drop next bytes)) → Ok ((a, b), end) ≡ answer_at (length bytes) at both
    second_found b end e = rw is (second_found_by a used (second (drop used (drop at bytes))) b end (rw (← behind, ← next_is) e))

-- ---- null

-- what isn't null is read as it is
pub not_null : {A : Type 0} (read : List ℕ → Reading A) (b : ℕ) (bytes : List ℕ) → b ≢ 0 → null_or read (b ∷ bytes) ≡ read_as Some (read (b ∷ bytes))
unfolding null_or
not_null read b bytes ne = rw (ne_eqb b 0 ne) refl

-- ---- the first byte

-- a byte that the rest of the input has first stands in front of what is behind it
pub starts : (bytes : List ℕ) (at v : ℕ) → Some v ≡ slice_get (take (length bytes - at) (drop at bytes)) 0 → (rest : List ℕ) × (drop at bytes ≡ v ∷ rest) × (drop (at + 1) bytes ≡ rest)
starts bytes at v e = go (drop at bytes) refl (e ∙ ap (λ (l : List ℕ). slice_get l 0) whole) where
  whole : take (length bytes - at) (drop at bytes) ≡ drop at bytes
  whole = ap (λ (n : ℕ). take n (drop at bytes)) (sym (length-drop at bytes)) ∙ take-length (drop at bytes)

  go : (l : List ℕ) → drop at bytes ≡ l → Some v ≡ slice_get l 0 → (rest : List ℕ) × (drop at bytes ≡ v ∷ rest) × (drop (at + 1) bytes ≡ rest)
  go [] d f = absurd cc
  go (x ∷ rest) d f =
      let same : v ≡ x = cc in
      (rest, d ∙ ap (λ (z : ℕ). z ∷ rest) (sym same), drop-both at 1 bytes ∙ ap (λ (l : List ℕ). drop 1 l) d)
