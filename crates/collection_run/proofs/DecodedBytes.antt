-- Base64 means bytes: no number past 255.
use Rattle.std.proofs.Common.{◌≡◌, ℕ, zero, suc, ◌+◌, ◌*◌, ◌<◌, ◌==◌, nat_lt, Bool, true, false, cond, List, [], ◌∷◌, length, drop, get_or, slice_index, slice_set, Option, Some, None, Result, Ok, Err, ◌⊎◌, inl, inr, refl, ap, subst, arith}
use Rattle.std.proofs.lemmas.Bool.{cases_Bool, cases_lt, cases_eq}
use Rattle.std.proofs.lemmas.List.{get_or_past, get_or-set_same, get_or-set_other, set_past}
use Rattle.base64.proofs.Tables.{IsDecodeTable_from, are_tables_inverse}
use Rattle.base64.specs.Decode.{or_else, symbol_error, decode_group, group_error, group_bytes, groups_error, groups_bytes, groups_before_last, push_leftover, scan_steps, no_leftover, scan_bytes, scan_last, suffix_bytes, lone_error, suffix_error, decode_error, decoded_bytes, decode_outcome}
use Rattle.base64.specs.Engines.{standard}
use Rattle.base64.specs.GeneralPurpose.{decode_of}
use Rattle.base64.specs.declared.decode.DecodeError.{DecodeError}
use Rattle.base64.specs.declared.engine.DecodePaddingMode.{DecodePaddingMode}
use Rattle.compact_values.proofs.LittleEndian.{IsBytes}
use Rattle.compact_values.proofs.Fields.{IsBytes-append, IsBytes-take}

-- the type of what the engine keeps of the last group, which has no name outside it
abbrev type_of : {A : Type 0} → A → Type 0
type_of {A} x = A

abbrev Leftover : Type 0
Leftover = type_of no_leftover

none_small : (i : ℕ) → get_or {A = ℕ} [] i 0 < 256
none_small zero = omega arith
none_small (suc i) = omega arith

-- a table of values below 64, or 255 for what is no symbol
abbrev IsTable : List ℕ → Type 0
IsTable dec = (x : ℕ) → (slice_index dec x ≡ 255) ⊎ (slice_index dec x < 64)

none_parts : (a b : Option DecodeError) → or_else a b ≡ None → (a ≡ None) × (b ≡ None)
none_parts None b e = (refl, e)
none_parts (Some x) b e = absurd cc

none_where : (t : Bool) (e : DecodeError) → cond t (Some e) None ≡ None → t ≡ false
none_where true e n = absurd cc
none_where false e n = refl

is_eq : (n : ℕ) → n ≡ 255 → (n == 255) ≡ true
is_eq n e = rw e refl

module _ (dec : List ℕ) (table : IsTable dec) where
  -- no symbol is refused, so each has a value
  small : (x : ℕ) → (slice_index dec x == 255) ≡ false → slice_index dec x < 64
  small x refused = elim (table x) [
    | inl is ↦ absurd (let yes = is_eq (slice_index dec x) is in cc)
    | inr below ↦ below
  ]

  symbol_small : (s : List ℕ) (i : ℕ) → symbol_error dec s i ≡ None → slice_index dec (slice_index s i) < 64
  symbol_small s i e = small (slice_index s i) (none_where (slice_index dec (slice_index s i) == 255) _ e)

  four : (a b c d : ℕ) → a < 64 → b < 64 → c < 64 → d < 64 → IsBytes (decode_group a b c d)
  four a b c d p q r s zero = omega arith
  four a b c d p q r s (suc zero) = omega arith
  four a b c d p q r s (suc (suc zero)) = omega arith
  four a b c d p q r s (suc (suc (suc k))) = omega arith

  group_small : (s : List ℕ) (i : ℕ) → group_error dec s i ≡ None → IsBytes (group_bytes dec s i)
  group_small s i e =
      let p = none_parts (symbol_error dec s i) _ e in
      let q = none_parts (symbol_error dec s (i + 1)) _ p.1 in
      let r = none_parts (symbol_error dec s (i + 2)) (symbol_error dec s (i + 3)) q.1 in
      four _ _ _ _ (symbol_small s i p.0) (symbol_small s (i + 1) q.0) (symbol_small s (i + 2) r.0) (symbol_small s (i + 3) r.1)

  groups_small : (s : List ℕ) (q : ℕ) → groups_error dec s q ≡ None → IsBytes (groups_bytes dec s q)
  unfolding groups_error groups_bytes
  groups_small s zero e = λ i. none_small i
  groups_small s (suc q) e =
      let p = none_parts (groups_error dec s q) (group_error dec s (4 * q)) e in
      IsBytes-append (groups_bytes dec s q) (group_bytes dec s (4 * q)) (groups_small s q p.0) (group_small s (4 * q) p.1)

  -- ---- the last group

  abbrev AreSmall : List ℕ → Type 0
  AreSmall values = (k : ℕ) → slice_index values k < 64

  set_small : (xs : List ℕ) (i v : ℕ) → AreSmall xs → v < 64 → AreSmall (slice_set xs i v)
  set_small xs i v all below k = elim (cases_eq k i) [
    | inl same ↦ elim (cases_lt i (length xs)) [
      | inl fits ↦ rw (same, get_or-set_same xs i v 0 fits) below
      | inr past ↦ rw (set_past xs i v past) (all k)
    ]
    | inr other ↦ rw (get_or-set_other xs i k v 0 other) (all k)
  ]

  -- one symbol more
  pushed : (pad at i b : ℕ) (st next : Leftover) → AreSmall st.morsels → push_leftover dec pad at st i b ≡ Ok next → AreSmall next.morsels
  pushed pad at i b st next held e = elim (cases_Bool (b == pad)) [
    | inl p ↦ elim (cases_Bool (nat_lt i 2)) [
      | inl l ↦ absurd (cc (rw (p, l) at e))
      | inr l ↦ subst AreSmall (morsels_are (rw (p, l) at e)) held
    ]
    | inr p ↦ elim (cases_Bool (nat_lt 0 st.padding_count)) [
      | inl a ↦ absurd (cc (rw (p, a) at e))
      | inr a ↦ elim (cases_Bool (slice_index dec b == 255)) [
        | inl v ↦ absurd (cc (rw (p, a, v) at e))
        | inr v ↦ subst AreSmall (morsels_are (rw (p, a, v) at e)) (set_small st.morsels st.morsels_count (slice_index dec b) held (small b v))
      ]
    ]
  ]
    where
      morsels_are : {x y : Leftover} → ◌≡◌ {A = Result Leftover DecodeError} (Ok x) (Ok y) → x.morsels ≡ y.morsels
      morsels_are {x} {y} e = let same : x ≡ y = cc in ap (λ (l : Leftover). l.morsels) same

  scanned : (pad at i : ℕ) (bs : List ℕ) (r : Result Leftover DecodeError) (fin : Leftover) → ((st : Leftover) → r ≡ Ok st → AreSmall st.morsels)
      → scan_steps dec pad at r i bs ≡ Ok fin → AreSmall fin.morsels
  unfolding scan_steps
  scanned pad at i bs (Err e) fin held is = absurd cc
  scanned pad at i [] (Ok st) fin held is = let same : st ≡ fin = cc in subst (λ (l : Leftover). AreSmall l.morsels) same (held st refl)
  scanned pad at i (b ∷ bs) (Ok st) fin held is =
      scanned pad at (i + 1) bs (push_leftover dec pad at st i b) fin (λ next e. pushed pad at i b st next (held st refl) e) is

  begun : AreSmall no_leftover.morsels
  begun zero = omega arith
  begun (suc zero) = omega arith
  begun (suc (suc zero)) = omega arith
  begun (suc (suc (suc zero))) = omega arith
  begun (suc (suc (suc (suc k)))) = omega arith

  last_small : (r : Result Leftover DecodeError) → ((st : Leftover) → r ≡ Ok st → AreSmall st.morsels) → IsBytes (scan_bytes r)
  last_small (Err e) held = λ i. none_small i
  last_small (Ok st) held =
      let m = held st refl in
      IsBytes-take _ _ (four (slice_index st.morsels 0) (slice_index st.morsels 1) (slice_index st.morsels 2) (slice_index st.morsels 3) (m 0) (m 1) (m 2) (m 3))

  suffix_small : (pad at : ℕ) (s : List ℕ) → IsBytes (suffix_bytes dec pad at s)
  suffix_small pad at s =
      last_small (scan_last dec pad at s) (λ st e. scanned pad at 0 (drop at s) (Ok no_leftover) st (λ first is. subst (λ (l : Leftover). AreSmall l.morsels) (ok_same is) begun) e)
    where
      ok_same : {x y : Leftover} → ◌≡◌ {A = Result Leftover DecodeError} (Ok x) (Ok y) → x ≡ y
      ok_same {x} {y} e = cc

  all_small : (pad : ℕ) (allow : Bool) (mode : DecodePaddingMode) (s : List ℕ) → decode_error dec pad allow mode s ≡ None → IsBytes (decoded_bytes dec pad s)
  all_small pad allow mode s e =
      let groups = groups_before_last (length s) in
      let p = none_parts (lone_error dec pad s) (or_else (groups_error dec s groups) (suffix_error dec pad allow mode (4 * groups) s)) e in
      let q = none_parts (groups_error dec s groups) (suffix_error dec pad allow mode (4 * groups) s) p.1 in
      IsBytes-append (groups_bytes dec s groups) (suffix_bytes dec pad (4 * groups) s) (groups_small s groups q.0) (suffix_small pad (4 * groups) s)

-- ---- the standard alphabet

standard_table : IsTable standard.decode_table
standard_table x = elim (cases_lt x 256) [
  | inl below ↦ IsDecodeTable_from standard.encode_table standard.decode_table (are_tables_inverse standard.encode_table standard.decode_table standard.padding.value standard.tables) x below
  | inr past ↦ inr (rw (get_or_past standard.decode_table x 0 past) (omega arith))
]

of_outcome : (o : Option DecodeError) (bytes found : List ℕ) → decode_outcome o bytes ≡ Ok found → (o ≡ None) × (bytes ≡ found)
of_outcome None bytes found e = (refl, cc)
of_outcome (Some x) bytes found e = absurd cc

pub decoded_are_bytes : (s found : List ℕ) → decode_of standard s ≡ Ok found → IsBytes found
decoded_are_bytes s found e =
    let bytes : List ℕ = decoded_bytes standard.decode_table standard.padding.value s in
    let p = of_outcome (decode_error standard.decode_table standard.padding.value standard.config.decode_allow_trailing_bits standard.config.decode_padding_mode s) bytes found e in
    subst IsBytes p.1 (all_small standard.decode_table standard_table standard.padding.value standard.config.decode_allow_trailing_bits standard.config.decode_padding_mode s p.0)
