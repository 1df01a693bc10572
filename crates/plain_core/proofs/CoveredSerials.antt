-- What ends cover, as they are noted and gone through.
use Rattle.std.proofs.Common.{◌≡◌, ℕ, zero, suc, ◌+◌, ◌-◌, ◌<◌, ◌≤◌, refl, sym, ◌∙◌, ap, Bool, true, false, nat_le, ◌&&◌, ◌||◌, List, [], ◌∷◌, ◌++◌, length, take, set, get_or, slice_get, Some, arith, replicate}
use Rattle.std.proofs.lemmas.Bool.Decides.{nat_tests}
use Rattle.std.proofs.lemmas.List.{take-set-le}
use Rattle.std.proofs.lemmas.List.Folds.{list_any_more}
use Rattle.std.specs.List.{list_any}
use Rattle.plain_core.specs.Knowing.{covers}

pub le-true : (a b : ℕ) → nat_le a b ≡ true → a ≤ b
le-true a b h = grind (arith, nat_tests)

pub true-le : (a b : ℕ) → a ≤ b → nat_le a b ≡ true
true-le a b h = grind (arith, nat_tests)

pub false-le : (a b : ℕ) → b < a → nat_le a b ≡ false
false-le a b h = grind (arith, nat_tests)

lt-false : (a b : ℕ) → nat_le a b ≡ false → b < a
lt-false a b h = grind (arith, nat_tests)

module _ (test : ℕ → Bool) where
  -- one of the first that is set to one that passes where the old one does
  set-within : (xs : List ℕ) (p k y : ℕ) → p < k → p < length xs → (test (get_or xs p 0) ≡ true → test y ≡ true)
      → list_any test (take k (set xs p y)) ≡ (list_any test (take k xs) || test y)
  set-within [] p k y a b h = absurd (omega arith)
  set-within (x ∷ xs) p zero y a b h = absurd (omega arith)
  set-within (x ∷ xs) zero (suc k) y a b h = at (test x) (list_any test (take k xs)) (test y) h
    where
      at : (o r n : Bool) → (o ≡ true → n ≡ true) → (n || r) ≡ ((o || r) || n)
      at true r n h = rw (h refl) refl
      at false true true h = refl
      at false true false h = refl
      at false false true h = refl
      at false false false h = refl
  set-within (x ∷ xs) (suc p) (suc k) y a b h = ap (λ t. test x || t) (set-within xs p k y (omega arith) (omega arith) h) ∙ joined (test x) (list_any test (take k xs)) (test y)
    where
      joined : (a b c : Bool) → (a || (b || c)) ≡ ((a || b) || c)
      joined true b c = refl
      joined false b c = refl

or-false : (b : Bool) → b ≡ (b || false)
or-false true = refl
or-false false = refl

-- a range is noted where it begins: at the place of the serial, and so before the k-th place if it begins at k or before
pub notes : (ends : List ℕ) (from to p k : ℕ) → p ≡ from - 1 → p < length ends → get_or ends p 0 < to → 1 ≤ k
    → covers (set ends p to) k ≡ (covers ends k || nat_le from k && nat_le k to)
notes ends from to p k e inside less some = at (nat_le from k) refl
  where
    at : (b : Bool) → nat_le from k ≡ b → covers (set ends p to) k ≡ (covers ends k || b && nat_le k to)
    at true h =
        let l = le-true from k h in
        set-within (nat_le k) ends p k to (omega arith) inside (λ t. true-le k to (let q = le-true k (get_or ends p 0) t in omega arith))
    at false h =
        let l = lt-false from k h in
        ap (list_any (nat_le k)) (take-set-le k ends p to (omega arith)) ∙ or-false (covers ends k)

-- zeros cover nothing
pub zeros-cover : (n k : ℕ) → 1 ≤ k → covers (replicate n 0) k ≡ false
zeros-cover n k some = none n k
  where
    none : (n j : ℕ) → list_any (nat_le k) (take j (replicate n 0)) ≡ false
    none zero zero = refl
    none zero (suc j) = refl
    none (suc n) zero = refl
    none (suc n) (suc j) = ap (λ b. b || list_any (nat_le k) (take j (replicate n 0))) (false-le k 0 (omega arith)) ∙ none n j

-- one end more: the furthest is the one that covers most
pub further : (xs : List ℕ) (i f k : ℕ) → i < length xs → nat_le k f ≡ list_any (nat_le k) (take i xs) → f < get_or xs i 0
    → nat_le k (get_or xs i 0) ≡ list_any (nat_le k) (take (i + 1) xs)
further xs i f k a h less = at (nat_le k f) refl (nat_le k (get_or xs i 0)) refl ∙ sym (list_any_more (nat_le k) xs i 0 a)
  where
    at : (b : Bool) → nat_le k f ≡ b → (c : Bool) → nat_le k (get_or xs i 0) ≡ c → nat_le k (get_or xs i 0) ≡ (list_any (nat_le k) (take i xs) || nat_le k (get_or xs i 0))
    at true p c q = let t = true-le k (get_or xs i 0) (let m = le-true k f p in omega arith) in t ∙ sym (ap (λ b. b || nat_le k (get_or xs i 0)) (sym h ∙ p))
    at false p c q = sym (ap (λ b. b || nat_le k (get_or xs i 0)) (sym h ∙ p))

pub no-further : (xs : List ℕ) (i f k : ℕ) → i < length xs → nat_le k f ≡ list_any (nat_le k) (take i xs) → get_or xs i 0 ≤ f
    → nat_le k f ≡ list_any (nat_le k) (take (i + 1) xs)
no-further xs i f k a h more = at (nat_le k f) refl (nat_le k (get_or xs i 0)) refl ∙ sym (list_any_more (nat_le k) xs i 0 a)
  where
    at : (b : Bool) → nat_le k f ≡ b → (c : Bool) → nat_le k (get_or xs i 0) ≡ c → nat_le k f ≡ (list_any (nat_le k) (take i xs) || nat_le k (get_or xs i 0))
    at true p c q = p ∙ sym (ap (λ b. b || nat_le k (get_or xs i 0)) (sym h ∙ p))
    at false p true q = let m = lt-false k f p in let t = le-true k (get_or xs i 0) q in absurd (omega arith)
    at false p false q = p ∙ sym (ap (λ b. b || nat_le k (get_or xs i 0)) (sym h ∙ p) ∙ q)

-- one flag more
flag-last : (flags : List Bool) (b : Bool) → slice_get (flags ++ b ∷ []) (length flags) ≡ Some b
flag-last [] b = refl
flag-last (f ∷ flags) b = flag-last flags b

flag-front : (flags : List Bool) (b : Bool) (i : ℕ) → i < length flags → slice_get (flags ++ b ∷ []) i ≡ slice_get flags i
flag-front [] b i h = absurd (omega arith)
flag-front (f ∷ flags) b zero h = refl
flag-front (f ∷ flags) b (suc i) h = flag-front flags b i (omega arith)

longer : (flags : List Bool) (b : Bool) → length (flags ++ b ∷ []) ≡ length flags + 1
longer [] b = refl
longer (f ∷ flags) b = let ih = longer flags b in omega (arith, ih)

pub one-longer : (flags after : List Bool) (n : ℕ) (b : Bool) → after ≡ flags ++ b ∷ [] → length flags ≡ n → length after ≡ n + 1
one-longer flags after n b a l = ap length a ∙ longer flags b ∙ ap (λ (k : ℕ). k + 1) l

pub flags-more : (told : ℕ → Bool) (flags after : List Bool) (n : ℕ) (b : Bool) → after ≡ flags ++ b ∷ [] → length flags ≡ n → b ≡ told n
    → ((i : ℕ) → i < n → slice_get flags i ≡ Some (told i)) → (i : ℕ) → i < n + 1 → slice_get after i ≡ Some (told i)
flags-more told flags after n b a l e h i few = at (nat_le n i) refl
  where
    at : (t : Bool) → nat_le n i ≡ t → slice_get after i ≡ Some (told i)
    at true p =
        let m = le-true n i p in
        let k : i ≡ n = omega arith in
        ap (λ (xs : List Bool). slice_get xs i) a ∙ ap (slice_get (flags ++ b ∷ [])) (k ∙ sym l) ∙ flag-last flags b ∙ ap (λ (t : Bool). Some t) e ∙ ap (λ (j : ℕ). Some (told j)) (sym k)
    at false p =
        let m = lt-false n i p in
        let q : i < length flags = omega (arith, m, l) in
        ap (λ (xs : List Bool). slice_get xs i) a ∙ flag-front flags b i q ∙ h i m
