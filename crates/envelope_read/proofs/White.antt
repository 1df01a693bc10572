-- Bytes without their white space, a run at a time.
use Rattle.std.proofs.Common.{◌≡◌, ℕ, zero, suc, ◌+◌, ◌<◌, Bool, true, false, ◌||◌, cond, List, [], ◌∷◌, ◌++◌, length, take, drop, Some, None, ◌-◌, append_assoc, refl, sym, ap, ◌∙◌, arith}
use Rattle.std.specs.Prelude.{slice_index, ◌==◌}
use Rattle.std.proofs.lemmas.List.{append-nil, take_all, length-drop}
use Rattle.memchr.specs.Find.{IsFirstByte, is_byte}
use Rattle.envelope_grammar.specs.Bytes.{is_white}
use Rattle.envelope_read.specs.Base.{HasNo, without_white}

-- ---- runs without white space

none_of : (a b c d : Bool) → ¬ (a || b || c ≡ true) → ¬ (d ≡ true) → a || d || b || c ≡ false
none_of true b c d h k = absurd (h refl)
none_of false true c d h k = absurd (h refl)
none_of false false true d h k = absurd (h refl)
none_of false false false true h k = absurd (k refl)
none_of false false false false h k = refl

pub nothing_white : (bytes : List ℕ) → ((k : ℕ) → k < length bytes → ¬ (slice_index bytes k == 32 || slice_index bytes k == 13 || slice_index bytes k == 10 ≡ true))
    → ((k : ℕ) → k < length bytes → ¬ (slice_index bytes k == 9 ≡ true)) → without_white bytes ≡ bytes
nothing_white [] three tab = refl
nothing_white (b ∷ bytes) three tab =
    let here : is_white b ≡ false = none_of (b == 32) (b == 13) (b == 10) (b == 9) (three 0 (omega arith)) (tab 0 (omega arith)) in
    let more : without_white bytes ≡ bytes = nothing_white bytes (λ k lt. three (suc k) (omega arith)) (λ k lt. tab (suc k) (omega arith)) in
    rw (here, more) refl

-- what doesn't pass a test up to a place doesn't in the front up to it
none_in_front : (p : ℕ → Bool) (n : ℕ) (bytes : List ℕ) → ((k : ℕ) → k < n → ¬ (p (slice_index bytes k) ≡ true)) → (k : ℕ) → k < length (take n bytes) → ¬ (p (slice_index (take n bytes) k) ≡ true)
none_in_front p zero bytes none k lt = absurd (omega (arith, lt))
none_in_front p (suc n) [] none k lt = absurd (omega (arith, lt))
none_in_front p (suc n) (c ∷ bytes) none zero lt = none 0 (omega arith)
none_in_front p (suc n) (c ∷ bytes) none (suc k) lt = none_in_front p n bytes (λ i less. none (suc i) (omega (arith, less))) k (omega (arith, lt))

-- ---- what stands before a white byte, and behind it

kept_or_not : (white : Bool) (b : ℕ) (all front back : List ℕ) → all ≡ front ++ back → cond white all (b ∷ all) ≡ cond white front (b ∷ front) ++ back
kept_or_not true b all front back e = e
kept_or_not false b all front back e = ap (λ (l : List ℕ). b ∷ l) e

pub split_at_white : (n : ℕ) (bytes : List ℕ) → n < length bytes → is_white (slice_index bytes n) ≡ true → without_white bytes ≡ without_white (take n bytes) ++ without_white (drop (n + 1) bytes)
split_at_white n [] lt white = absurd (omega (arith, lt))
split_at_white zero (b ∷ bytes) lt white = rw white refl
split_at_white (suc n) (b ∷ bytes) lt white =
    let e : suc n + 1 ≡ suc (n + 1) = omega arith in
    rw e (kept_or_not (is_white b) b (without_white bytes) (without_white (take n bytes)) (without_white (drop (n + 1) bytes)) (split_at_white n bytes (omega (arith, lt)) white))

any_white : (a b c d : Bool) → a || b || c ≡ true → a || d || b || c ≡ true
any_white true b c d h = refl
any_white false b c true h = refl
any_white false b c false h = h

tab_white : (a b c d : Bool) → d ≡ true → a || d || b || c ≡ true
tab_white true b c d h = refl
tab_white false b c true h = refl
tab_white false b c false h = absurd cc

-- ---- what is added

-- what a slice from a place on is
rest_is : (n : ℕ) (bytes : List ℕ) → take (length bytes - n) (drop n bytes) ≡ drop n bytes
rest_is n bytes = take_all (length bytes - n) (drop n bytes) (omega (arith, length-drop n bytes))

adds_front : (at : ℕ) (old new bytes : List ℕ) → at < length bytes → is_white (slice_index bytes at) ≡ true → new ≡ old ++ without_white (take at bytes)
    → new ++ without_white (take (length bytes - (at + 1)) (drop (at + 1) bytes)) ≡ old ++ without_white bytes
adds_front at old new bytes lt white e =
    let rest = drop (at + 1) bytes in
    ap (λ (l : List ℕ). new ++ without_white l) (rest_is (at + 1) bytes)
    ∙ ap (λ (l : List ℕ). l ++ without_white rest) e
    ∙ append_assoc old (without_white (take at bytes)) (without_white rest)
    ∙ ap (λ (l : List ℕ). old ++ l) (sym (split_at_white at bytes lt white))

abbrev pub ends_line : ℕ → Bool
ends_line b = b == 32 || b == 13 || b == 10

pub adds_line : (at : ℕ) (old new bytes : List ℕ) → IsFirstByte ends_line bytes (Some at) → HasNo 9 bytes → new ≡ old ++ take at bytes
    → new ++ without_white (take (length bytes - (at + 1)) (drop (at + 1) bytes)) ≡ old ++ without_white bytes
adds_line at old new bytes h no_tab e =
    let b = slice_index bytes at in
    let black : without_white (take at bytes) ≡ take at bytes = nothing_white (take at bytes)
    (none_in_front ends_line at bytes (λ k lt. h.0.before k (omega arith) lt))
    (none_in_front (λ c. c == 9) at bytes (λ k lt. no_tab k (omega (arith, lt, h.0.high)))) in
    adds_front at old new bytes h.0.high (any_white (b == 32) (b == 13) (b == 10) (b == 9) h.1) (e ∙ ap (λ (l : List ℕ). old ++ l) (sym black))

pub adds_last_line : (old new bytes : List ℕ) → IsFirstByte ends_line bytes None → HasNo 9 bytes → new ≡ old ++ bytes
    → new ++ without_white (take (length bytes - length bytes) (drop (length bytes) bytes)) ≡ old ++ without_white bytes
adds_last_line old new bytes h no_tab e =
    let none : length bytes - length bytes ≡ 0 = omega arith in
    let black : without_white bytes ≡ bytes = nothing_white bytes (λ k lt. h k (omega arith) lt) no_tab in
    ap (λ (n : ℕ). new ++ without_white (take n (drop (length bytes) bytes))) none ∙ append-nil new ∙ e ∙ ap (λ (l : List ℕ). old ++ l) (sym black)

pub adds_before_tab : (at : ℕ) (old new bytes : List ℕ) → IsFirstByte (is_byte 9) bytes (Some at) → new ≡ old ++ without_white (take at bytes)
    → new ++ without_white (take (length bytes - (at + 1)) (drop (at + 1) bytes)) ≡ old ++ without_white bytes
adds_before_tab at old new bytes h e =
    let b = slice_index bytes at in
    adds_front at old new bytes h.0.high (tab_white (b == 32) (b == 13) (b == 10) (b == 9) h.1) e
