-- What holds of a list in pieces.
use Rattle.std.proofs.Common.{◌≡◌, ℕ, zero, suc, ◌+◌, ◌-◌, ◌*◌, ◌/◌, ◌%◌, ◌<◌, ◌≤◌, min, List, [], ◌∷◌, ◌++◌, length, take, drop, refl, sym, ap, ◌∙◌, arith, inl, inr}
use Rattle.std.specs.List.{flat_map}
use Rattle.std.specs.Int.{div_ceil}
use Rattle.std.proofs.lemmas.Bool.{cases_lt}
use Rattle.std.proofs.lemmas.List.{length-drop, length-append, take_at, drop_at, take_all, drop_all, append-nil, nil_from_length, take-append-drop, take-append-le, drop-append-le}
use Rattle.std.proofs.Math.Nat.{div-eq_of_lt, mod-eq_of_lt, div-eq-sub-div, mod-eq-sub-mod, zero-div, zero-mod}
use Rattle.file_nodes.specs.Pieces.{pieces_within, pieces}

-- any number that is enough gives the same
enough : {X : Type 0} (a b n : ℕ) (xs : List X) → 0 < n → length xs ≤ a → length xs ≤ b → pieces_within a n xs ≡ pieces_within b n xs
unfolding pieces_within
enough {X} zero zero n xs p f g = refl
enough {X} zero (suc b) n [] p f g = refl
enough {X} zero (suc b) n (x ∷ xs) p f g = absurd (omega arith)
enough {X} (suc a) zero n [] p f g = refl
enough {X} (suc a) zero n (x ∷ xs) p f g = absurd (omega arith)
enough {X} (suc a) (suc b) n [] p f g = refl
enough {X} (suc a) (suc b) n (x ∷ xs) p f g =
    let shorter : length (drop n (x ∷ xs)) ≤ length xs = omega (arith, length-drop n (x ∷ xs)) in
    ap (λ (l : List (List X)). take n (x ∷ xs) ∷ l) (enough a b n (drop n (x ∷ xs)) p (omega arith) (omega arith))

pub pieces-nil : {X : Type 0} (n : ℕ) → pieces {X = X} n [] ≡ []
unfolding pieces_within
pieces-nil {X} n = refl

-- the first piece, and those of what is left
pub pieces-cons : {X : Type 0} (n : ℕ) (xs : List X) → 0 < n → 0 < length xs → pieces n xs ≡ take n xs ∷ pieces n (drop n xs)
unfolding pieces_within
pieces-cons {X} n [] p f = absurd (omega arith)
pieces-cons {X} n (x ∷ xs) p f =
    let shorter : length (drop n (x ∷ xs)) ≤ length xs = omega (arith, length-drop n (x ∷ xs)) in
    ap (λ (l : List (List X)). take n (x ∷ xs) ∷ l) (enough (length xs) (length (drop n (x ∷ xs))) n (drop n (x ∷ xs)) p shorter (omega arith))

-- a front of n items, or of all where they are fewer, is the first piece
pub front_is : {X : Type 0} (n : ℕ) (front rest : List X) → length front ≡ min n (length (front ++ rest)) → take n (front ++ rest) ≡ front
front_is {X} n front rest e =
    let sum = length-append front rest in
    elim (cases_lt (length (front ++ rest)) n) [
      | inl short ↦
          let none : rest ≡ [] = nil_from_length rest (omega arith) in
          take_all n (front ++ rest) (omega arith) ∙ ap (λ (l : List X). front ++ l) none ∙ append-nil front
      | inr long ↦ take_at front rest n (omega arith)
    ]

pub rest_is : {X : Type 0} (n : ℕ) (front rest : List X) → length front ≡ min n (length (front ++ rest)) → drop n (front ++ rest) ≡ rest
rest_is {X} n front rest e =
    let sum = length-append front rest in
    elim (cases_lt (length (front ++ rest)) n) [
      | inl short ↦
          let none : rest ≡ [] = nil_from_length rest (omega arith) in
          drop_all n (front ++ rest) (omega arith) ∙ sym none
      | inr long ↦ drop_at front rest n (omega arith)
    ]

pub pieces-front : {X : Type 0} (n : ℕ) (xs front rest : List X) → 0 < n → xs ≡ front ++ rest → length front ≡ min n (length xs) → 0 < length xs
    → pieces n xs ≡ front ∷ pieces n rest
pieces-front {X} n xs front rest p e f g =
    let size : length front ≡ min n (length (front ++ rest)) = f ∙ ap (λ (l : List X). min n (length l)) e in
    let some : 0 < length (front ++ rest) = omega (arith, ap length e) in
    ap (pieces n) e ∙ pieces-cons n (front ++ rest) p some
    ∙ (cc (front_is n front rest size, rest_is n front rest size))

-- the pieces joined are the list
flat_within : {X : Type 0} (a n : ℕ) (xs : List X) → 0 < n → length xs ≤ a → flat_map (λ p. p) (pieces_within a n xs) ≡ xs
unfolding pieces_within
flat_within {X} zero n [] p f = refl
flat_within {X} zero n (x ∷ xs) p f = absurd (omega arith)
flat_within {X} (suc a) n [] p f = refl
flat_within {X} (suc a) n (x ∷ xs) p f =
    let shorter : length (drop n (x ∷ xs)) ≤ a = omega (arith, length-drop n (x ∷ xs)) in
    ap (λ (l : List X). take n (x ∷ xs) ++ l) (flat_within a n (drop n (x ∷ xs)) p shorter) ∙ take-append-drop n (x ∷ xs)

pub flat_map-pieces : {X : Type 0} (n : ℕ) (xs : List X) → 0 < n → flat_map (λ p. p) (pieces n xs) ≡ xs
flat_map-pieces {X} n xs p = flat_within (length xs) n xs p (omega arith)

-- one piece more
ceil_more : (n len : ℕ) → 0 < n → 0 < len → suc (div_ceil (len - n) n) ≡ div_ceil len n
ceil_more n len p f = elim (cases_lt len n) [
  | inl short ↦
      let none : len - n ≡ 0 = omega arith in
      let over : len % n ≡ len = mod-eq_of_lt short in
      let whole : len / n ≡ 0 = div-eq_of_lt short in
      rw (none, zero-div, zero-mod, over, whole) (omega arith)
  | inr long ↦
      let over : len % n ≡ (len - n) % n = mod-eq-sub-mod long in
      let whole : len / n ≡ (len - n) / n + 1 = div-eq-sub-div p long in
      rw (over, whole) (omega arith)
]

-- how many pieces there are
count_within : {X : Type 0} (a n : ℕ) (xs : List X) → 0 < n → length xs ≤ a → length (pieces_within a n xs) ≡ div_ceil (length xs) n
unfolding pieces_within
count_within {X} zero n [] p f = rw (zero-div, zero-mod)
count_within {X} zero n (x ∷ xs) p f = absurd (omega arith)
count_within {X} (suc a) n [] p f = rw (zero-div, zero-mod)
count_within {X} (suc a) n (x ∷ xs) p f =
    let shorter : length (drop n (x ∷ xs)) ≤ a = omega (arith, length-drop n (x ∷ xs)) in
    ap (λ (m : ℕ). suc m) (count_within a n (drop n (x ∷ xs)) p shorter ∙ ap (λ (m : ℕ). div_ceil m n) (length-drop n (x ∷ xs)))
    ∙ ceil_more n (length (x ∷ xs)) p (omega arith)

pub length-pieces : {X : Type 0} (n : ℕ) (xs : List X) → 0 < n → length (pieces n xs) ≡ div_ceil (length xs) n
length-pieces {X} n xs p = count_within (length xs) n xs p (omega arith)

-- the pieces of a front of m whole pieces, and of what is left
pub pieces-append : {X : Type 0} (m n : ℕ) (front rest : List X) → 0 < n → length front ≡ m * n → pieces n (front ++ rest) ≡ pieces n front ++ pieces n rest
pieces-append {X} zero n [] rest p e = ap (λ (l : List (List X)). l ++ pieces n rest) (sym (pieces-nil n))
pieces-append {X} zero n (x ∷ front) rest p e = absurd (omega arith)
pieces-append {X} (suc m) n front rest p e =
    let size : length front ≡ n + m * n = omega arith in
    let some : 0 < length front = omega arith in
    let within : n ≤ length front = omega arith in
    let all_some : 0 < length (front ++ rest) = omega (arith, length-append front rest) in
    let left : length (drop n front) ≡ m * n = omega (arith, length-drop n front) in
    let first : take n (front ++ rest) ≡ take n front = take-append-le n front rest within in
    let after : drop n (front ++ rest) ≡ drop n front ++ rest = drop-append-le n front rest within in
    let others : pieces n (drop n front ++ rest) ≡ pieces n (drop n front) ++ pieces n rest = pieces-append m n (drop n front) rest p left in
    pieces-cons n (front ++ rest) p all_some
    ∙ ap (λ (l : List X). l ∷ pieces n (drop n (front ++ rest))) first
    ∙ ap (λ (l : List (List X)). take n front ∷ l) (ap (pieces n) after ∙ others)
    ∙ ap (λ (l : List (List X)). l ++ pieces n rest) (sym (pieces-cons n front p some))
