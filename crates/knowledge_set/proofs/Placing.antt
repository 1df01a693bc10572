-- Where a range is put among ranges in order.
use Rattle.std.proofs.Common.{◌≡◌, ℕ, zero, suc, ◌<◌, ◌≤◌, refl, sym, ◌∙◌, ap, Bool, true, false, ◌&&◌, ◌||◌, List, [], ◌∷◌, length, get_or, arith, if◌then◌else◌}
use Rattle.std.specs.List.{list_all}
use Rattle.std.specs.List.Sorted.{IsPartitionedBy, IsPartitionPoint}
use Rattle.compact_values.specs.declared.guid.Guid.{Guid}
use Rattle.doc_model.specs.declared.knowledge.Range.{Range}
use Rattle.doc_model.specs.rules.Pulls.{knows}
use Rattle.knowledge_set.specs.Maximal.{has_some, is_apart, are_maximal}
use Rattle.knowledge_set.specs.Joined.{has, place_in}
use Rattle.knowledge_set.proofs.Apart.{trans, one-had, behind-lacks, before-lacks}

pub both : (a b : Bool) → (a && b) ≡ true → (a ≡ true) × (b ≡ true)
both true b h = (refl, h)
both false b h = cc

-- what a maximal list says of its first range
pub some-first : (x : Range) (xs : List Range) → are_maximal (x ∷ xs) ≡ true → has_some x ≡ true
some-first x xs h = (both (has_some x) (list_all (is_apart x) xs) (both (has_some x && list_all (is_apart x) xs) (are_maximal xs) h).0).0

pub apart-first : (x : Range) (xs : List Range) → are_maximal (x ∷ xs) ≡ true → list_all (is_apart x) xs ≡ true
apart-first x xs h = (both (has_some x) (list_all (is_apart x) xs) (both (has_some x && list_all (is_apart x) xs) (are_maximal xs) h).0).1

pub maximal-rest : (x : Range) (xs : List Range) → are_maximal (x ∷ xs) ≡ true → are_maximal xs ≡ true
maximal-rest x xs h = (both (has_some x && list_all (is_apart x) xs) (are_maximal xs) h).1

-- each range of a list that is maximal has a number
pub some-at : (xs : List Range) (i : ℕ) (d : Range) → are_maximal xs ≡ true → i < length xs → has_some (get_or xs i d) ≡ true
some-at [] i d n l = absurd (omega arith)
some-at (y ∷ ys) zero d n l = some-first y ys n
some-at (y ∷ ys) (suc i) d n l = some-at ys i d (maximal-rest y ys n) (omega arith)

pub filled-at : (xs : List Range) (i : ℕ) (d : Range) → are_maximal xs ≡ true → i < length xs → (get_or xs i d).from ≤ (get_or xs i d).to
filled-at xs i d m l = one-had (get_or xs i d) (some-at xs i d m l)

pub one-of-all : {X : Type 0} (p : X → Bool) (xs : List X) (i : ℕ) (d : X) → list_all p xs ≡ true → i < length xs → p (get_or xs i d) ≡ true
one-of-all p [] i d h l = absurd (omega arith)
one-of-all p (x ∷ xs) zero d h l = (both (p x) (list_all p xs) h).0
one-of-all p (x ∷ xs) (suc i) d h l = one-of-all p xs i d (both (p x) (list_all p xs) h).1 (omega arith)

-- those that are apart before a range come first
pub parted : (xs : List Range) (r : Range) → are_maximal xs ≡ true → IsPartitionedBy (λ x. is_apart x r) xs
parted [] r m i j d a b h = absurd (omega arith)
parted (x ∷ xs) r m zero zero d a b h = h
parted (x ∷ xs) r m zero (suc j) d a b h =
    trans x (get_or xs j d) r (one-of-all (is_apart x) xs j d (apart-first x xs m) (omega arith)) (some-at xs j d (maximal-rest x xs m) (omega arith)) h
parted (x ∷ xs) r m (suc i) zero d a b h = absurd (omega arith)
parted (x ∷ xs) r m (suc i) (suc j) d a b h = parted xs r (maximal-rest x xs m) i j d (omega arith) (omega arith) h

pub within : (xs : List Range) (r : Range) → place_in xs r ≤ length xs
within [] r = omega arith
within (x ∷ xs) r = let ih = within xs r in at (is_apart x r) (place_in xs r) ih
  where
    at : (b : Bool) (n : ℕ) → n ≤ length xs → (if b then suc n else 0) ≤ suc (length xs)
    at true n l = omega arith
    at false n l = omega arith

-- a point between those that are apart before a range and those that aren't is the place
pub point : (xs : List Range) (r : Range) (n : ℕ) → n ≤ length xs → IsPartitionPoint (λ y. is_apart y r ≡ true) (λ y. is_apart y r ≡ false) xs n → n ≡ place_in xs r
point [] r n l p = omega arith
point (x ∷ xs) r zero l p = let e : is_apart x r ≡ false = p.1 0 r (omega arith) (omega arith) in rw e refl
point (x ∷ xs) r (suc n) l p =
    let e : is_apart x r ≡ true = p.0 0 r (omega arith) (omega arith) in
    let ih : n ≡ place_in xs r =
    point xs r n (omega arith) (λ k d a b. p.0 (suc k) d (omega arith) (omega arith), λ k d a b. p.1 (suc k) d (omega arith) (omega arith)) in
    rw e (ap suc ih)

-- the range of one number
abbrev pub alone : Guid → ℕ → Range
alone g k = record { guid = g; from = k; to = k }

-- none of those that are apart behind a range has a number that the range isn't apart before
none-behind : (x : Range) (ys : List Range) (g : Guid) (k : ℕ) → is_apart x (alone g k) ≡ false → list_all (is_apart x) ys ≡ true → knows g ys k ≡ false
none-behind x [] g k n h = refl
none-behind x (y ∷ ys) g k n h =
    let t = both (is_apart x y) (list_all (is_apart x) ys) h in
    rw (behind-lacks x y g k n t.0) (none-behind x ys g k n t.1)

-- a number is in the range at its place, or in none where no range is there
pub knows-none : (xs : List Range) (g : Guid) (k : ℕ) → are_maximal xs ≡ true → length xs ≤ place_in xs (alone g k) → knows g xs k ≡ false
knows-none [] g k m h = refl
knows-none (x ∷ xs) g k m h = at (is_apart x (alone g k)) refl (knows-none xs g k (maximal-rest x xs m)) h
  where
    at : (b : Bool) → is_apart x (alone g k) ≡ b → (length xs ≤ place_in xs (alone g k) → knows g xs k ≡ false)
        → suc (length xs) ≤ (if b then suc (place_in xs (alone g k)) else 0) → knows g (x ∷ xs) k ≡ false
    at true e rest q = rw (before-lacks x g k e) (rest (omega arith))
    at false e rest q = absurd (omega arith)

pub knows-some : (xs : List Range) (r : Range) (g : Guid) (k : ℕ) → are_maximal xs ≡ true → place_in xs (alone g k) < length xs
    → r ≡ get_or xs (place_in xs (alone g k)) r → knows g xs k ≡ has g k r
knows-some [] r g k m l h = absurd (omega arith)
knows-some (x ∷ xs) r g k m l h = at (is_apart x (alone g k)) refl (knows-some xs r g k (maximal-rest x xs m)) l h
  where
    or-false : (b : Bool) → (b || false) ≡ b
    or-false true = refl
    or-false false = refl

    at : (b : Bool) → is_apart x (alone g k) ≡ b
        → (place_in xs (alone g k) < length xs → r ≡ get_or xs (place_in xs (alone g k)) r → knows g xs k ≡ has g k r)
        → (if b then suc (place_in xs (alone g k)) else 0) < suc (length xs) → r ≡ get_or (x ∷ xs) (if b then suc (place_in xs (alone g k)) else 0) r
        → knows g (x ∷ xs) k ≡ has g k r
    at true e rest a q = rw (before-lacks x g k e) (rest (omega arith) q)
    at false e rest a q = rw (none-behind x xs g k e (apart-first x xs m)) (or-false (has g k x) ∙ ap (has g k) (sym q))
