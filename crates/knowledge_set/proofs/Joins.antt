-- What ranges have, and that they are maximal, once a range is put among them.
use Rattle.std.proofs.Common.{◌≡◌, ℕ, zero, suc, ◌+◌, ◌<◌, ◌≤◌, refl, sym, ◌∙◌, ap, Bool, true, false, not, ◌&&◌, ◌||◌, List, [], ◌∷◌, ◌++◌, length, take, drop, get_or, arith, if◌then◌else◌}
use Rattle.std.proofs.lemmas.List.Folds.{list_any_more}
use Rattle.std.specs.List.{insert, list_all, remove_range}
use Rattle.compact_values.specs.declared.guid.Guid.{Guid}
use Rattle.doc_model.specs.declared.knowledge.Range.{Range}
use Rattle.doc_model.specs.rules.Pulls.{knows}
use Rattle.knowledge_set.specs.Maximal.{has_some, is_apart, are_maximal}
use Rattle.knowledge_set.specs.Joined.{has, hull, place_in, absorbed, with_range}
use Rattle.knowledge_set.proofs.Apart.{trans, apart-or-not, empty-has, has-one, hull-has, hull-some, before-hull, not-before-hull}
use Rattle.knowledge_set.proofs.Placing.{both, some-first, apart-first, maximal-rest}

pair : (a b : Bool) → a ≡ true → b ≡ true → (a && b) ≡ true
pair true b h k = k
pair false b h k = cc

maximal : (x : Range) (xs : List Range) → has_some x ≡ true → list_all (is_apart x) xs ≡ true → are_maximal xs ≡ true → are_maximal (x ∷ xs) ≡ true
maximal x xs s a m = pair (has_some x && list_all (is_apart x) xs) (are_maximal xs) (pair (has_some x) (list_all (is_apart x) xs) s a) m

-- none of these is apart before a range
abbrev NoneBefore : List Range → Range → Type 0
NoneBefore xs r = list_all (λ x. not (is_apart x r)) xs ≡ true

not-false : (b : Bool) → not b ≡ true → b ≡ false
not-false true h = cc
not-false false h = refl

none-first : (x : Range) (xs : List Range) (r : Range) → NoneBefore (x ∷ xs) r → is_apart x r ≡ false
none-first x xs r h = not-false (is_apart x r) (both (not (is_apart x r)) (list_all (λ y. not (is_apart y r)) xs) h).0

none-rest : (x : Range) (xs : List Range) (r : Range) → NoneBefore (x ∷ xs) r → NoneBefore xs r
none-rest x xs r h = (both (not (is_apart x r)) (list_all (λ y. not (is_apart y r)) xs) h).1

-- where the first isn't, none behind it is
none-behind : (x : Range) (xs : List Range) (r : Range) → is_apart x r ≡ false → list_all (is_apart x) xs ≡ true → are_maximal xs ≡ true → NoneBefore xs r
none-behind x [] r n a m = refl
none-behind x (y ∷ ys) r n a m =
    let t = both (is_apart x y) (list_all (is_apart x) ys) a in
    pair (not (is_apart y r)) (list_all (λ z. not (is_apart z r)) ys)
    (ap not (apart-or-not x y r t.0 (some-first y ys m) n))
    (none-behind x ys r n t.1 (maximal-rest y ys m))

-- nor is one apart before the hull
none-hull : (xs : List Range) (r y : Range) → NoneBefore xs r → NoneBefore xs (hull r y)
none-hull [] r y h = refl
none-hull (x ∷ xs) r y h =
    pair (not (is_apart x (hull r y))) (list_all (λ z. not (is_apart z (hull r y))) xs)
    (ap not (not-before-hull x r y (none-first x xs r h)))
    (none-hull xs r y (none-rest x xs r h))

-- what is apart before one of the ranges is apart before those behind it
apart-rest : (r x : Range) (xs : List Range) → is_apart r x ≡ true → has_some x ≡ true → list_all (is_apart x) xs ≡ true → list_all (is_apart r) xs ≡ true
apart-rest r x [] h s a = refl
apart-rest r x (y ∷ ys) h s a =
    let t = both (is_apart x y) (list_all (is_apart x) ys) a in
    pair (is_apart r y) (list_all (is_apart r) ys) (trans r x y h s t.0) (apart-rest r x ys h s t.1)

-- a range that absorbs
pub absorbed-has : (r : Range) (xs : List Range) (g : Guid) (k : ℕ) → has_some r ≡ true → are_maximal xs ≡ true → NoneBefore xs r
    → knows g (absorbed r xs) k ≡ (has g k r || knows g xs k)
absorbed-has r [] g k s m n = refl
absorbed-has r (x ∷ xs) g k s m n =
    at (is_apart r x) refl (absorbed-has (hull r x) xs g k (hull-some r x s) (maximal-rest x xs m) (none-hull xs r x (none-rest x xs r n)))
  where
    joined : (a b c : Bool) → ((a || b) || c) ≡ (a || (b || c))
    joined true b c = refl
    joined false b c = refl

    at : (b : Bool) → is_apart r x ≡ b → knows g (absorbed (hull r x) xs) k ≡ (has g k (hull r x) || knows g xs k)
        → knows g (if b then r ∷ x ∷ xs else absorbed (hull r x) xs) k ≡ (has g k r || (has g k x || knows g xs k))
    at true e ih = refl
    at false e ih =
        ih
        ∙ ap (λ t. t || knows g xs k) (sym (hull-has r x g k s (some-first x xs m) e (none-first x xs r n)))
        ∙ joined (has g k r) (has g k x) (knows g xs k)

pub absorbed-apart : (p r : Range) (xs : List Range) → is_apart p r ≡ true → list_all (is_apart p) xs ≡ true → list_all (is_apart p) (absorbed r xs) ≡ true
absorbed-apart p r [] h a = pair (is_apart p r) true h refl
absorbed-apart p r (x ∷ xs) h a =
    let t = both (is_apart p x) (list_all (is_apart p) xs) a in
    at (is_apart r x) refl (λ e. absorbed-apart p (hull r x) xs (before-hull p r x h t.0 e) t.1)
  where
    at : (b : Bool) → is_apart r x ≡ b → (is_apart r x ≡ false → list_all (is_apart p) (absorbed (hull r x) xs) ≡ true)
        → list_all (is_apart p) (if b then r ∷ x ∷ xs else absorbed (hull r x) xs) ≡ true
    at true e ih = pair (is_apart p r) (list_all (is_apart p) (x ∷ xs)) h a
    at false e ih = ih e

pub absorbed-maximal : (r : Range) (xs : List Range) → has_some r ≡ true → are_maximal xs ≡ true → are_maximal (absorbed r xs) ≡ true
absorbed-maximal r [] s m = maximal r [] s refl refl
absorbed-maximal r (x ∷ xs) s m = at (is_apart r x) refl (absorbed-maximal (hull r x) xs (hull-some r x s) (maximal-rest x xs m))
  where
    at : (b : Bool) → is_apart r x ≡ b → are_maximal (absorbed (hull r x) xs) ≡ true → are_maximal (if b then r ∷ x ∷ xs else absorbed (hull r x) xs) ≡ true
    at true e ih =
        maximal r (x ∷ xs) s
        (pair (is_apart r x) (list_all (is_apart r) xs) e (apart-rest r x xs e (some-first x xs m) (apart-first x xs m)))
        m
    at false e ih = ih

-- a range among the others
pub with-has : (xs : List Range) (r : Range) (g : Guid) (k : ℕ) → has_some r ≡ true → are_maximal xs ≡ true
    → knows g (with_range xs r) k ≡ (knows g xs k || has g k r)
with-has [] r g k s m = or-false (has g k r)
  where
    or-false : (b : Bool) → (b || false) ≡ b
    or-false true = refl
    or-false false = refl
with-has (x ∷ xs) r g k s m = at (is_apart x r) refl (with-has xs r g k s (maximal-rest x xs m))
  where
    joined : (a b c : Bool) → (a || (b || c)) ≡ ((a || b) || c)
    joined true b c = refl
    joined false b c = refl

    swapped : (a b : Bool) → (a || b) ≡ (b || a)
    swapped true true = refl
    swapped true false = refl
    swapped false true = refl
    swapped false false = refl

    at : (b : Bool) → is_apart x r ≡ b → knows g (with_range xs r) k ≡ (knows g xs k || has g k r)
        → knows g (if b then x ∷ with_range xs r else absorbed r (x ∷ xs)) k ≡ ((has g k x || knows g xs k) || has g k r)
    at true e ih = ap (λ t. has g k x || t) ih ∙ joined (has g k x) (knows g xs k) (has g k r)
    at false e ih =
        absorbed-has r (x ∷ xs) g k s m
        (pair (not (is_apart x r)) (list_all (λ z. not (is_apart z r)) xs) (ap not e) (none-behind x xs r e (apart-first x xs m) (maximal-rest x xs m)))
        ∙ swapped (has g k r) (has g k x || knows g xs k)

with-apart : (p : Range) (xs : List Range) (r : Range) → is_apart p r ≡ true → list_all (is_apart p) xs ≡ true → list_all (is_apart p) (with_range xs r) ≡ true
with-apart p [] r h a = pair (is_apart p r) true h refl
with-apart p (x ∷ xs) r h a =
    let t = both (is_apart p x) (list_all (is_apart p) xs) a in
    at (is_apart x r) t.0 (with-apart p xs r h t.1) (absorbed-apart p r (x ∷ xs) h a)
  where
    at : (b : Bool) → is_apart p x ≡ true → list_all (is_apart p) (with_range xs r) ≡ true → list_all (is_apart p) (absorbed r (x ∷ xs)) ≡ true
        → list_all (is_apart p) (if b then x ∷ with_range xs r else absorbed r (x ∷ xs)) ≡ true
    at true f w d = pair (is_apart p x) (list_all (is_apart p) (with_range xs r)) f w
    at false f w d = d

pub with-maximal : (xs : List Range) (r : Range) → has_some r ≡ true → are_maximal xs ≡ true → are_maximal (with_range xs r) ≡ true
with-maximal [] r s m = maximal r [] s refl refl
with-maximal (x ∷ xs) r s m = at (is_apart x r) refl (with-maximal xs r s (maximal-rest x xs m)) (absorbed-maximal r (x ∷ xs) s m)
  where
    at : (b : Bool) → is_apart x r ≡ b → are_maximal (with_range xs r) ≡ true → are_maximal (absorbed r (x ∷ xs)) ≡ true
        → are_maximal (if b then x ∷ with_range xs r else absorbed r (x ∷ xs)) ≡ true
    at true e w d = maximal x (with_range xs r) (some-first x xs m) (with-apart x xs r e (apart-first x xs m)) w
    at false e w d = d

-- it stands at its place
pub with-parts : (xs : List Range) (r : Range) → take (place_in xs r) xs ++ absorbed r (drop (place_in xs r) xs) ≡ with_range xs r
with-parts [] r = refl
with-parts (x ∷ xs) r = at (is_apart x r) (with-parts xs r)
  where
    at : (b : Bool) → take (place_in xs r) xs ++ absorbed r (drop (place_in xs r) xs) ≡ with_range xs r
        → take (if b then suc (place_in xs r) else 0) (x ∷ xs) ++ absorbed r (drop (if b then suc (place_in xs r) else 0) (x ∷ xs))
        ≡ (if b then x ∷ with_range xs r else absorbed r (x ∷ xs))
    at true ih = ap (λ ys. x ∷ ys) ih
    at false ih = refl

-- an item that is put at a place, and those behind it taken away
pub put-and-cut : (xs : List Range) (s e : ℕ) (w : Range) → s ≤ e → e ≤ length xs
    → take (s + 1) (take s xs ++ w ∷ drop s xs) ++ drop (e + 1) (take s xs ++ w ∷ drop s xs) ≡ take s xs ++ w ∷ drop e xs
put-and-cut xs s e w a b =
    let p : s + 1 ≡ suc s = omega arith in
    let q : e + 1 ≡ suc e = omega arith in
    rw (p, q) (cut xs s e w a b)
  where
    cut : (ys : List Range) (i j : ℕ) (v : Range) → i ≤ j → j ≤ length ys
        → take (suc i) (take i ys ++ v ∷ drop i ys) ++ drop (suc j) (take i ys ++ v ∷ drop i ys) ≡ take i ys ++ v ∷ drop j ys
    cut ys zero j v l m = refl
    cut [] (suc i) j v l m = absurd (omega arith)
    cut (y ∷ ys) (suc i) zero v l m = absurd (omega arith)
    cut (y ∷ ys) (suc i) (suc j) v l m = ap (λ zs. y ∷ zs) (cut ys i j v (omega arith) (omega arith))

-- so a range that is put in with what it absorbs, in the place of what it absorbs, is among the others
pub placed : (now put old : List Range) (r w : Range) (s e : ℕ) → now ≡ remove_range put (s + 1) (e + 1) → put ≡ insert old s w
    → s ≡ place_in old r → absorbed r (drop s old) ≡ w ∷ drop e old → s ≤ e → e ≤ length old → now ≡ with_range old r
placed now put old r w s e n p q h a b =
    n
    ∙ ap (λ xs. remove_range xs (s + 1) (e + 1)) p
    ∙ put-and-cut old s e w a b
    ∙ ap (λ xs. take s old ++ xs) (sym h)
    ∙ ap (λ i. take i old ++ absorbed r (drop i old)) q
    ∙ with-parts old r

-- ranges that get one more are maximal
pub more-maximal : (now after : List Range) (r : Range) → after ≡ with_range now r → r.from ≤ r.to → are_maximal now ≡ true → are_maximal after ≡ true
more-maximal now after r e s m = ap are_maximal e ∙ with-maximal now r (has-one r s) m

-- one range more of a list
pub one-more : (before : Bool) (now after ranges : List Range) (i : ℕ) (r d : Range) (g : Guid) (k : ℕ) → after ≡ with_range now r → are_maximal now ≡ true
    → r.from ≤ r.to → i < length ranges → r ≡ get_or ranges i d → knows g now k ≡ (before || knows g (take i ranges) k)
    → knows g after k ≡ (before || knows g (take (i + 1) ranges) k)
one-more before now after ranges i r d g k e m s l at h =
    ap (λ xs. knows g xs k) e
    ∙ with-has now r g k (has-one r s) m
    ∙ ap (λ b. b || has g k r) h
    ∙ joined before (knows g (take i ranges) k) (has g k r)
    ∙ ap (λ x. before || (knows g (take i ranges) k || has g k x)) at
    ∙ ap (λ b. before || b) (sym (list_any_more (has g k) ranges i d l))
  where
    joined : (a b c : Bool) → ((a || b) || c) ≡ (a || (b || c))
    joined true b c = refl
    joined false b c = refl

-- one without a number adds none
pub one-empty : (ranges : List Range) (i : ℕ) (d : Range) (g : Guid) (k : ℕ) (now : Bool) → (get_or ranges i d).to < (get_or ranges i d).from → i < length ranges
    → now ≡ knows g (take i ranges) k → now ≡ knows g (take (i + 1) ranges) k
one-empty ranges i d g k now n l h =
    h
    ∙ or-false (knows g (take i ranges) k)
    ∙ ap (λ b. knows g (take i ranges) k || b) (sym (empty-has (get_or ranges i d) g k n))
    ∙ sym (list_any_more (has g k) ranges i d l)
  where
    or-false : (b : Bool) → b ≡ (b || false)
    or-false true = refl
    or-false false = refl
