-- Numbers in references, and bytes as characters.
use Rattle.std.proofs.Common.{◌≡◌, ℕ, ◌+◌, ◌-◌, ◌*◌, ◌<◌, ◌≤◌, inl, inr, Bool, true, false, cond, ltb, eqb, not, add-one, List, [], ◌∷◌, ◌++◌, length, get_or, take, drop, Option, Some, None, refl, sym, ap, ◌∙◌, append_assoc, arith}
use Rattle.std.specs.Prelude.{encode_utf8}
use Rattle.std.specs.Char.{IsScalar, InScalarRange, OutOfScalarRange}
use Rattle.std.specs.Option.{SomeIff, MatchOption}
use Rattle.std.specs.Str.{IsUtf8, is_utf8, chars}
use Rattle.std.proofs.lemmas.Str.{IsUtf8-from_is_utf8, is_utf8-from_IsUtf8}
use Rattle.std.proofs.lemmas.Bool.{le-ltb, lt-ltb, eqb-true}
use Rattle.std.proofs.lemmas.Bool.Decides.{nat_tests}
use Rattle.std.proofs.lemmas.List.{at_drop_more, at_drop_all, append-nil, length-drop, take_rest}
use Rattle.std.proofs.Math.Nat.{mul-le-mul_left}
use Rattle.envelope_grammar.specs.Grammar.{begins, digit_of, number_of, is_scalar, scalar_of, character_of}
use Rattle.envelope_grammar.specs.Reading.{◌>>=◌, past, reference_at, characters, in_front, meaning, referred}
use Rattle.envelope_grammar.specs.Bytes.{run_len}
use Rattle.envelope_grammar.proofs.Runs.{run_stops, past_takes, bind_some, pair_is}

pub characters-utf8 : (bytes : List ℕ) → IsUtf8 bytes → characters bytes ≡ Some (chars bytes)
characters-utf8 bytes h = rw (is_utf8-from_IsUtf8 bytes h) refl

characters_by : (bytes : List ℕ) (t : Bool) → is_utf8 bytes ≡ t → ¬ IsUtf8 bytes → cond t (Some (chars bytes)) None ≡ None
characters_by bytes true e h = absurd (h (IsUtf8-from_is_utf8 bytes e))
characters_by bytes false e h = refl

pub characters-not : (bytes : List ℕ) → ¬ IsUtf8 bytes → characters bytes ≡ None
characters-not bytes h = characters_by bytes (is_utf8 bytes) refl h

is_scalar-high : (n : ℕ) → 0x110000 ≤ n → is_scalar n ≡ false
is_scalar-high n h = grind (arith, nat_tests)

scalar_of_none : (t : Bool) (o : Option ℕ) → scalar_of o ≡ None → scalar_of (cond t o None) ≡ None
scalar_of_none true o h = h
scalar_of_none false o h = refl

pub too_large : (base high : ℕ) (digits : List ℕ) → 1 ≤ base → 0x110000 ≤ high → scalar_of (number_of base high digits) ≡ None
unfolding number_of
too_large base high [] some large = rw (is_scalar-high high large) refl
too_large base high (d ∷ digits) some large =
    scalar_of_none (ltb (digit_of d) base) (number_of base (high * base + digit_of d) digits)
    (too_large base (high * base + digit_of d) digits some (omega (arith, mul-le-mul_left high some)))

pub no_digit : (base high d : ℕ) (digits : List ℕ) → base ≤ digit_of d → number_of base high (d ∷ digits) ≡ None
unfolding number_of
no_digit base high d digits h = rw (le-ltb _ _ h) refl

pub one_digit : (base high d : ℕ) (digits : List ℕ) → digit_of d < base → number_of base high (d ∷ digits) ≡ number_of base (high * base + digit_of d) digits
unfolding number_of
one_digit base high d digits h = rw (lt-ltb _ _ h) refl

pub no_digits : (base high : ℕ) → number_of base high [] ≡ Some high
unfolding number_of
no_digits base high = refl

-- ---- the loop over the digits

pub stops_here : (base high i : ℕ) (digits : List ℕ) → i < length digits → base ≤ digit_of (get_or digits i 0) → scalar_of (number_of base high (drop i digits)) ≡ None
stops_here base high i digits lt h =
    ap scalar_of (at_drop_more (number_of base high) digits i 0 lt ∙ no_digit base high (get_or digits i 0) (drop (i + 1) digits) h)

pub goes_on : (base high i : ℕ) (digits : List ℕ) → i < length digits → digit_of (get_or digits i 0) < base
    → number_of base high (drop i digits) ≡ number_of base (high * base + digit_of (get_or digits i 0)) (drop (i + 1) digits)
goes_on base high i digits lt h = at_drop_more (number_of base high) digits i 0 lt ∙ one_digit base high (get_or digits i 0) (drop (i + 1) digits) h

pub stops_high : (base high i : ℕ) (digits : List ℕ) → 1 ≤ base → i < length digits → digit_of (get_or digits i 0) < base → 0x110000 ≤ high * base + digit_of (get_or digits i 0)
    → scalar_of (number_of base high (drop i digits)) ≡ None
stops_high base high i digits some lt h large = ap scalar_of (goes_on base high i digits lt h) ∙ too_large base (high * base + digit_of (get_or digits i 0)) (drop (i + 1) digits) some large

pub at_end : (base high i : ℕ) (digits : List ℕ) → length digits ≤ i → number_of base high (drop i digits) ≡ Some high
at_end base high i digits le = at_drop_all (number_of base high) digits i le ∙ no_digits base high

is_scalar-low : (n : ℕ) → InScalarRange n → is_scalar n ≡ true
is_scalar-low n (inl h) = grind (arith, nat_tests)
is_scalar-low n (inr h) = grind (arith, nat_tests)

is_scalar-out : (n : ℕ) → OutOfScalarRange n → is_scalar n ≡ false
is_scalar-out n (inl h) = grind (arith, nat_tests)
is_scalar-out n (inr h) = is_scalar-high n h

pub scalar_from : (r : Option ℕ) (c : ℕ) → SomeIff r (IsScalar c) c → MatchOption r (OutOfScalarRange c) (λ _. InScalarRange c) → r ≡ scalar_of (Some c)
scalar_from None c value cases = rw (is_scalar-out c cases) refl
scalar_from (Some x) c value cases = rw (is_scalar-low c cases) (ap (λ (n : ℕ). Some n) value.1)

-- ---- the loop over written bytes

pub in_front-nil : (o : Option (List ℕ)) → in_front [] o ≡ o
in_front-nil None = refl
in_front-nil (Some x) = refl

in_front-then : (a b : List ℕ) (o : Option (List ℕ)) → in_front a (in_front b o) ≡ in_front (a ++ b) o
in_front-then a b None = refl
in_front-then a b (Some x) = ap (λ (l : List ℕ). Some l) (sym (append_assoc a b x))

-- ---- characters up to a reference, and the reference

plain_by : (out : List ℕ) (b : ℕ) (bytes : List ℕ) (t : Bool) → eqb b 38 ≡ t
    → in_front (out ++ b ∷ []) (meaning None bytes) ≡ in_front ((out ++ b ∷ []) ++ take (run_len (λ c. not (eqb c 38)) bytes) bytes) (meaning None (drop (run_len (λ c. not (eqb c 38)) bytes) bytes))
    → in_front out (meaning None (b ∷ bytes))
    ≡ in_front (out ++ take (cond (not t) (run_len (λ c. not (eqb c 38)) bytes + 1) 0) (b ∷ bytes)) (meaning None (drop (cond (not t) (run_len (λ c. not (eqb c 38)) bytes + 1) 0) (b ∷ bytes)))
unfolding meaning
plain_by out b bytes true e more = ap (λ (l : List ℕ). in_front l (meaning None (b ∷ bytes))) (sym (append-nil out))
plain_by out b bytes false e more =
    let n = run_len (λ c. not (eqb c 38)) bytes in
    let joined : (out ++ b ∷ []) ++ take n bytes ≡ out ++ (b ∷ take n bytes) = append_assoc out (b ∷ []) (take n bytes) in
    let here : in_front out (meaning None (b ∷ bytes)) ≡ in_front (out ++ b ∷ []) (meaning None bytes) = rw e (in_front-then out (b ∷ []) (meaning None bytes)) in
    let all : in_front out (meaning None (b ∷ bytes)) ≡ in_front (out ++ (b ∷ take n bytes)) (meaning None (drop n bytes)) = here ∙ more ∙ ap (λ (l : List ℕ). in_front l (meaning None (drop n bytes))) joined in
    rw add-one all

pub plain_run : (out bytes : List ℕ) → in_front out (meaning None bytes)
    ≡ in_front (out ++ take (run_len (λ c. not (eqb c 38)) bytes) bytes) (meaning None (drop (run_len (λ c. not (eqb c 38)) bytes) bytes))
plain_run out [] = ap (λ (l : List ℕ). in_front l (meaning None [])) (sym (append-nil out))
plain_run out (b ∷ bytes) = plain_by out b bytes (eqb b 38) refl (plain_run (out ++ b ∷ []) bytes)

abbrev pub named_to : List ℕ → ℕ → List ℕ → Option (List ℕ)
named_to name n bytes = past 59 (drop n bytes) >>= λ behind. referred (character_of (name ++ take n bytes)) (meaning None behind)

named_by : (name : List ℕ) (b : ℕ) (bytes : List ℕ) (t : Bool) → eqb b 59 ≡ t
    → meaning (Some (name ++ b ∷ [])) bytes ≡ named_to (name ++ b ∷ []) (run_len (λ c. not (eqb c 59)) bytes) bytes
    → meaning (Some name) (b ∷ bytes) ≡ named_to name (cond (not t) (run_len (λ c. not (eqb c 59)) bytes + 1) 0) (b ∷ bytes)
unfolding meaning
named_by name b bytes true e more = rw (e, append-nil name) refl
named_by name b bytes false e more =
    let n = run_len (λ c. not (eqb c 59)) bytes in
    let joined : (name ++ b ∷ []) ++ take n bytes ≡ name ++ (b ∷ take n bytes) = append_assoc name (b ∷ []) (take n bytes) in
    let all : meaning (Some (name ++ b ∷ [])) bytes ≡ (past 59 (drop n bytes) >>= λ behind. referred (character_of (name ++ (b ∷ take n bytes))) (meaning None behind)) =
    more ∙ ap (λ (l : List ℕ). past 59 (drop n bytes) >>= λ behind. referred (character_of l) (meaning None behind)) joined in
    rw (e, add-one) all

named_run : (name bytes : List ℕ) → meaning (Some name) bytes ≡ named_to name (run_len (λ c. not (eqb c 59)) bytes) bytes
unfolding meaning
named_run name [] = refl
named_run name (b ∷ bytes) = named_by name b bytes (eqb b 59) refl (named_run (name ++ b ∷ []) bytes)

abbrev pub with_rest : Option ℕ → List ℕ → Option (ℕ × List ℕ)
with_rest c rest = c >>= λ d. Some (d, rest)

abbrev pub means_all : ℕ × List ℕ → Option (List ℕ)
means_all x = in_front (encode_utf8 x.0) (meaning None x.1)

referred_by : (o : Option (List ℕ)) (c : Option ℕ) → (o >>= λ behind. referred c (meaning None behind)) ≡ (o >>= with_rest c >>= means_all)
referred_by None c = refl
referred_by (Some behind) None = refl
referred_by (Some behind) (Some d) = refl

reference_means : (bytes : List ℕ) → meaning (Some []) bytes ≡ (reference_at bytes >>= λ x. in_front (encode_utf8 x.0) (meaning None x.1))
unfolding reference_at
reference_means bytes =
    let n = run_len (λ c. not (eqb c 59)) bytes in
    named_run [] bytes ∙ referred_by (past 59 (drop n bytes)) (character_of (take n bytes))

behind_mark : (bytes : List ℕ) → meaning None (38 ∷ bytes) ≡ meaning (Some []) bytes
unfolding meaning
behind_mark bytes = refl

-- what a piece is followed by
module _ (out bytes behind : List ℕ) (mark : past 38 (drop (run_len (λ c. not (eqb c 38)) bytes) bytes) ≡ Some behind) where
  to_reference : in_front out (meaning None bytes) ≡ in_front (out ++ take (run_len (λ c. not (eqb c 38)) bytes) bytes) (reference_at behind >>= λ x. in_front (encode_utf8 x.0) (meaning None x.1))
  to_reference =
      let n = run_len (λ c. not (eqb c 38)) bytes in
      plain_run out bytes ∙ ap (λ (l : List ℕ). in_front (out ++ take n bytes) (meaning None l)) (past_takes 38 (drop n bytes) behind mark)
      ∙ ap (in_front (out ++ take n bytes)) (behind_mark behind ∙ reference_means behind)

  pub piece_goes_on : (c : ℕ) (rest : List ℕ) → reference_at behind ≡ Some (c, rest)
      → in_front ((out ++ take (run_len (λ c. not (eqb c 38)) bytes) bytes) ++ encode_utf8 c) (meaning None rest) ≡ in_front out (meaning None bytes)
  piece_goes_on c rest h =
      let n = run_len (λ c. not (eqb c 38)) bytes in
      sym (to_reference ∙ rw h (in_front-then (out ++ take n bytes) (encode_utf8 c) (meaning None rest)))

  pub piece_fails : reference_at behind ≡ None → in_front out (meaning None bytes) ≡ None
  piece_fails h = to_reference ∙ rw h refl

stops_at_mark : (bytes : List ℕ) → begins (λ c. not (eqb c 38)) bytes ≡ false → past 38 bytes ≡ None → bytes ≡ []
stops_at_mark [] stop none = refl
stops_at_mark (b ∷ bytes) stop none = absurd (by (eqb b 38) stop none)
  where
    by : (t : Bool) → not t ≡ false → cond t (Some bytes) None ≡ None → ⊥
    by true s n = absurd cc
    by false s n = absurd cc

pub last_piece : (out bytes : List ℕ) → past 38 (drop (run_len (λ c. not (eqb c 38)) bytes) bytes) ≡ None
    → in_front (out ++ take (run_len (λ c. not (eqb c 38)) bytes) bytes) (meaning None []) ≡ in_front out (meaning None bytes)
last_piece out bytes none =
    let n = run_len (λ c. not (eqb c 38)) bytes in
    let nothing = stops_at_mark (drop n bytes) (run_stops (λ c. not (eqb c 38)) bytes) none in
    sym (plain_run out bytes ∙ ap (λ (l : List ℕ). in_front (out ++ take n bytes) (meaning None l)) nothing)

pub nothing_left : (out : List ℕ) → in_front out (meaning None []) ≡ Some out
unfolding meaning
nothing_left out = ap (λ (l : List ℕ). Some l) (append-nil out)

-- one turn of the loop that adds a piece
module _ (old new bytes : List ℕ) (n : ℕ) (run : n ≡ run_len (λ c. not (eqb c 38)) bytes) (added : new ≡ old ++ take n bytes) where
  pub ends_here : past 38 (take (length bytes - n) (drop n bytes)) ≡ None → in_front new (meaning None []) ≡ in_front old (meaning None bytes)
  ends_here none =
      let none' = rw (take_rest bytes n, run) at none in
      rw (added, run) (last_piece old bytes none')

  pub fails_here : (behind : List ℕ) → past 38 (take (length bytes - n) (drop n bytes)) ≡ Some behind → reference_at behind ≡ None → meaning None bytes ≡ None
  fails_here behind mark none =
      let mark' = rw (take_rest bytes n, run) at mark in
      sym (in_front-nil (meaning None bytes)) ∙ piece_fails [] bytes behind mark' none

  pub goes_on_here : (behind newer rest : List ℕ) (c : ℕ) → past 38 (take (length bytes - n) (drop n bytes)) ≡ Some behind → reference_at behind ≡ Some (c, rest)
      → newer ≡ new ++ encode_utf8 c → in_front newer (meaning None rest) ≡ in_front old (meaning None bytes)
  goes_on_here behind newer rest c mark reference more =
      let mark' = rw (take_rest bytes n, run) at mark in
      rw (more, added, run) (piece_goes_on old bytes behind mark' c rest reference)

pub shorter_here : (bytes behind rest : List ℕ) (n c : ℕ) → past 38 (take (length bytes - n) (drop n bytes)) ≡ Some behind → reference_at behind ≡ Some (c, rest) → length rest < length bytes
unfolding reference_at
shorter_here bytes behind rest n c mark reference =
    let mark' = rw (take_rest bytes n) at mark in
    let m = run_len (λ b. not (eqb b 59)) behind in
    let p = bind_some (past 59 (drop m behind)) (λ r. character_of (take m behind) >>= λ d. Some (d, r)) (c, rest) reference in
    let q = bind_some (character_of (take m behind)) (λ d. Some (d, p.0)) (c, rest) p.2 in
    let same = pair_is {A = ℕ} {B = List ℕ} (q.0, p.0) (c, rest) q.2 in
    let first : drop n bytes ≡ 38 ∷ behind = past_takes 38 (drop n bytes) behind mark' in
    let second : drop m behind ≡ 59 ∷ p.0 = past_takes 59 (drop m behind) p.0 p.1 in
    omega (arith, ap length first, ap length second, ap length same.1, length-drop n bytes, length-drop m behind)

pub all_means : (out rest : List ℕ) (whole : Option (List ℕ)) → true ≡ eqb (length rest) 0 → in_front out (meaning None rest) ≡ whole → whole ≡ Some out
all_means out [] whole empty so_far = sym so_far ∙ nothing_left out
all_means out (b ∷ rest) whole empty so_far = absurd (let none = eqb-true (length (b ∷ rest)) 0 (sym empty) in omega arith)
