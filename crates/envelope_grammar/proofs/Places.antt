-- The first byte with a value, as where a run of other bytes ends.
use Rattle.std.proofs.Common.{◌≡◌, ℕ, zero, suc, ◌<◌, Bool, true, false, not, List, [], ◌∷◌, length, Some, None, refl, arith}
use Rattle.std.specs.Prelude.{slice_index, ◌==◌}
use Rattle.memchr.specs.Find.{IsFirstByte, is_byte}
use Rattle.envelope_grammar.specs.Bytes.{run_len}

run_first : (p : ℕ → Bool) (bytes : List ℕ) (k : ℕ) → k < length bytes → p (slice_index bytes k) ≡ false → ((j : ℕ) → j < k → p (slice_index bytes j) ≡ true) → run_len p bytes ≡ k
run_first p [] k lt stop before = absurd (omega arith)
run_first p (b ∷ bytes) zero lt stop before = rw stop refl
run_first p (b ∷ bytes) (suc k) lt stop before =
    let here : p b ≡ true = before 0 (omega arith) in
    let more : run_len p bytes ≡ k = run_first p bytes k (omega arith) stop (λ j l. before (suc j) (omega arith)) in
    rw (here, more) (omega arith)

run_whole : (p : ℕ → Bool) (bytes : List ℕ) → ((j : ℕ) → j < length bytes → p (slice_index bytes j) ≡ true) → run_len p bytes ≡ length bytes
run_whole p [] all = refl
run_whole p (b ∷ bytes) all =
    let here : p b ≡ true = all 0 (omega arith) in
    let more : run_len p bytes ≡ length bytes = run_whole p bytes (λ j l. all (suc j) (omega arith)) in
    rw (here, more) (omega arith)

passes : (t : Bool) → ¬ (t ≡ true) → not t ≡ true
passes true h = absurd (h refl)
passes false h = refl

pub first_place : (end : ℕ) (bytes : List ℕ) (k : ℕ) → IsFirstByte (is_byte end) bytes (Some k) → run_len (λ b. not (b == end)) bytes ≡ k
first_place end bytes k h = run_first (λ b. not (b == end)) bytes k h.0.high (rw h.1 refl) (λ j l. passes (slice_index bytes j == end) (h.0.before j (omega arith) l))

pub no_place : (end : ℕ) (bytes : List ℕ) → IsFirstByte (is_byte end) bytes None → run_len (λ b. not (b == end)) bytes ≡ length bytes
no_place end bytes h = run_whole (λ b. not (b == end)) bytes (λ j l. passes (slice_index bytes j == end) (h j (omega arith) l))
