-- A name put at its place among names that ascend.
use Rattle.std.proofs.Common.{◌≡◌, ◌⊎◌, inl, inr, ⊎_elim, ◌∙◌, refl, sym, ap, subst, arith, ℕ, zero, suc, ◌+◌, ◌<◌, ◌≤◌, List, [], ◌∷◌, ◌++◌, map, length, take, drop, insert, Bool, true, false, not, cond, Contains, encode_utf8_all, slice_index_or, true≢false, ◌↔◌, Option, Some, None, is_some, nat_lt}
use Rattle.std.proofs.lemmas.Bool.Decides.{nat_tests}
use Rattle.std.proofs.lemmas.Grind.{common_steps}
use Rattle.std.proofs.lemmas.List.Elements.{Contains-append_left, Contains-append_right, Contains-append_cases, Contains-push, Contains-push_cases}
use Rattle.std.specs.List.{position_or_len, AllByRecursion}
use Rattle.std.specs.List.Sorted.{IsStrictlySortedBy}
use Rattle.std.specs.Cmp.{IsTotalOrder}
use Rattle.std.specs.Cmp.Lexicographic.{slice_cmp}
use Rattle.std.specs.Ordering.{nat_cmp, is_ge, is_eq, ordering_reverse, ordering_then}
use Rattle.std.specs.declared.cmp.Ordering.{Ordering}
use Rattle.std.specs.declared.cmp.Ordering.TheVariants.{Less, Equal, Greater}
use Rattle.std.proofs.lemmas.Cmp.{nat_list_cmp_total, ranked, by_ranked}
use Rattle.document_store.specs.Names.{AreAscending, place_of, first_from, comes_from}

abbrev pub key : List ℕ → List ℕ
key text = encode_utf8_all text

abbrev pub order : List ℕ → List ℕ → Ordering
order = slice_cmp nat_cmp

abbrev pub Sorted : List (List ℕ) → Type 0
Sorted names = IsStrictlySortedBy order names

-- what holds of each text, and of one more
all-insert : (P : List ℕ → Type 0) (xs : List (List ℕ)) (k : ℕ) (x : List ℕ) → AllByRecursion P (map key xs) → P (key x) → AllByRecursion P (map key (insert xs k x))
all-insert P [] zero x all it = (it, tt)
all-insert P [] (suc k) x all it = (it, tt)
all-insert P (y ∷ ys) zero x all it = (it, all)
all-insert P (y ∷ ys) (suc k) x all it = (all.0, all-insert P ys k x all.1 it)

all-later : (a b : List ℕ) (names : List (List ℕ)) → order a b ≡ Less → AllByRecursion (λ y. order b y ≡ Less) names → AllByRecursion (λ y. order a y ≡ Less) names
all-later a b [] less all = tt
all-later a b (y ∷ ys) less all = (nat_list_cmp_total.trans a b y less all.0, all-later a b ys less all.1)

-- ---- the order

at_front : (b : Bool) (n : ℕ) → 0 ≡ cond (not b) (1 + n) 0 → b ≡ true
at_front true n is = refl
at_front false n is = absurd (omega (arith, is))

behind : (b : Bool) (k n : ℕ) → suc k ≡ cond (not b) (1 + n) 0 → (b ≡ false) × (k ≡ n)
behind true k n is = absurd (omega (arith, is))
behind false k n is = (refl, omega (arith, is))

not_less : (o : Ordering) → is_ge o ≡ true → (o ≡ Equal) ⊎ (o ≡ Greater)
not_less Less is = absurd (true≢false (sym is))
not_less Equal is = inl refl
not_less Greater is = inr refl

less : (o : Ordering) → is_ge o ≡ false → o ≡ Less
less Less is = refl
less Equal is = absurd (true≢false is)
less Greater is = absurd (true≢false is)

both_equal : (o p : Ordering) → ordering_then o p ≡ Equal → (o ≡ Equal) × (p ≡ Equal)
both_equal Less p is = absurd (true≢false (sym (ap is_eq is)))
both_equal Equal p is = (refl, is)
both_equal Greater p is = absurd (true≢false (sym (ap is_eq is)))

same_number : (x y : ℕ) → nat_cmp x y ≡ Equal → x ≡ y
same_number x y is = by_ranked (x < y) (x ≡ y) (y < x) (nat_cmp x y) (ranked x y (nat_cmp x y) refl)
    (λ o lt. absurd (true≢false (sym (ap is_eq (sym o ∙ is))))) (λ o e. e) (λ o gt. absurd (true≢false (sym (ap is_eq (sym o ∙ is)))))

same_bytes : (a b : List ℕ) → order a b ≡ Equal → a ≡ b
same_bytes [] [] is = refl
same_bytes [] (y ∷ ys) is = absurd (true≢false (sym (ap is_eq is)))
same_bytes (x ∷ xs) [] is = absurd (true≢false (sym (ap is_eq is)))
same_bytes (x ∷ xs) (y ∷ ys) is =
    let both = both_equal (nat_cmp x y) (order xs ys) is in
    λ i. same_number x y both.0 i ∷ same_bytes xs ys both.1 i

before_it : (x y : List ℕ) → comes_from x y ≡ true → (key y ≡ x → ⊥) → order x (key y) ≡ Less
before_it x y from differ =
    ⊎_elim (λ e. absurd (differ (same_bytes (key y) x e))) (λ g. nat_list_cmp_total.antisymm x (key y) ∙ ap ordering_reverse g) (not_less (order (key y) x) from)

-- ---- a name put at its place

pub place-bound : (name : List ℕ) (xs : List (List ℕ)) → place_of name xs ≤ length xs
place-bound name [] = omega arith
place-bound name (y ∷ ys) = by (comes_from name y) (place-bound name ys)
  where
    by : (b : Bool) → place_of name ys ≤ length ys → cond (not b) (1 + place_of name ys) 0 ≤ length (y ∷ ys)
    by true le = omega arith
    by false le = omega (arith, le)

ascending-insert : (x : List ℕ) (xs : List (List ℕ)) (k : ℕ) → k ≡ place_of (key x) xs → Sorted (map key xs) → ((k < length xs) × (key (slice_index_or xs k []) ≡ key x) → ⊥) → Sorted (map key (insert xs k x))
unfolding IsStrictlySortedBy
ascending-insert x [] zero here sorted apart = (tt, tt)
ascending-insert x [] (suc k) here sorted apart = (tt, tt)
ascending-insert x (y ∷ ys) zero here sorted apart =
    let first = before_it (key x) y (at_front (comes_from (key x) y) (place_of (key x) ys) here) (λ e. apart (omega arith, e)) in
    ((first, all-later (key x) (key y) (map key ys) first sorted.0), sorted)
ascending-insert x (y ∷ ys) (suc k) here sorted apart =
    let later = behind (comes_from (key x) y) k (place_of (key x) ys) here in
    let first = less (order (key y) (key x)) later.0 in
    (all-insert (λ z. order (key y) z ≡ Less) ys k x sorted.0 first, ascending-insert x ys k later.1 sorted.1 (λ at. apart (omega (arith, at.0), at.1)))

single : (a b : List ℕ) → Contains (a ∷ []) b → a ≡ b
single a b there = ⊎_elim (λ none. absurd (omega (arith, none.1))) (λ e. e) (Contains-push_cases [] a b there)

alone : (a b : List ℕ) → a ≡ b → Contains (a ∷ []) b
alone a b e = subst (λ (z : List ℕ). Contains (a ∷ []) z) e (Contains-push [] a)

contained : (x : List ℕ) (xs : List (List ℕ)) (k : ℕ) (other : List ℕ) → Contains (map key (insert xs k x)) other → Contains (map key xs) other ⊎ (key x ≡ other)
contained x [] zero other there = inr (single (key x) other there)
contained x [] (suc k) other there = inr (single (key x) other there)
contained x (y ∷ ys) zero other there = ⊎_elim (λ a. inr (single (key x) other a)) (λ b. inl b) (Contains-append_cases (key x ∷ []) (map key (y ∷ ys)) other there)
contained x (y ∷ ys) (suc k) other there =
    ⊎_elim (λ a. inl (Contains-append_left (key y ∷ []) (map key ys) other a))
    (λ b. ⊎_elim (λ c. inl (Contains-append_right (key y ∷ []) (map key ys) other c)) (λ e. inr e) (contained x ys k other b))
    (Contains-append_cases (key y ∷ []) (map key (insert ys k x)) other there)

containing : (x : List ℕ) (xs : List (List ℕ)) (k : ℕ) (other : List ℕ) → Contains (map key xs) other ⊎ (key x ≡ other) → Contains (map key (insert xs k x)) other
containing x [] zero other (inl there) = absurd (omega (arith, there.1))
containing x [] zero other (inr e) = alone (key x) other e
containing x [] (suc k) other (inl there) = absurd (omega (arith, there.1))
containing x [] (suc k) other (inr e) = alone (key x) other e
containing x (y ∷ ys) zero other (inl there) = Contains-append_right (key x ∷ []) (map key (y ∷ ys)) other there
containing x (y ∷ ys) zero other (inr e) = Contains-append_left (key x ∷ []) (map key (y ∷ ys)) other (alone (key x) other e)
containing x (y ∷ ys) (suc k) other (inl there) =
    ⊎_elim (λ a. Contains-append_left (key y ∷ []) (map key (insert ys k x)) other a)
    (λ b. Contains-append_right (key y ∷ []) (map key (insert ys k x)) other (containing x ys k other (inl b)))
    (Contains-append_cases (key y ∷ []) (map key ys) other there)
containing x (y ∷ ys) (suc k) other (inr e) = Contains-append_right (key y ∷ []) (map key (insert ys k x)) other (containing x ys k other (inr e))

-- ---- as `add_name` uses it

pub added_ascends : (names lent after : List (List ℕ)) (k : ℕ) (x bytes : List ℕ) → lent ≡ names → k ≡ place_of bytes lent → bytes ≡ key x → after ≡ insert names k x
    → ((k < length names) × (key (slice_index_or names k []) ≡ key x) → ⊥) → Sorted (map key names) → Sorted (map key after)
added_ascends names lent after k x bytes same here is put apart sorted =
    subst (λ (l : List (List ℕ)). Sorted (map key l)) (sym put)
    (ascending-insert x names k (here ∙ ap (λ (l : List (List ℕ)). place_of bytes l) same ∙ ap (λ (b : List ℕ). place_of b names) is) sorted apart)

pub added_contains : (names after : List (List ℕ)) (k : ℕ) (x : List ℕ) → after ≡ insert names k x
    → (other : List ℕ) → (Contains (map key after) other) ↔ (Contains (map key names) other ⊎ (key x ≡ other))
added_contains names after k x put other =
    subst (λ (l : List (List ℕ)). (Contains (map key l) other) ↔ (Contains (map key names) other ⊎ (key x ≡ other))) (sym put) (contained x names k other, containing x names k other)

-- a name that is there is there again
pub is_there : (names : List (List ℕ)) (k : ℕ) → k < length names → Contains (map key names) (key (slice_index_or names k []))
is_there [] k lt = absurd (omega (arith, lt))
is_there (y ∷ ys) zero lt = Contains-append_left (key y ∷ []) (map key ys) (key y) (alone (key y) (key y) refl)
is_there (y ∷ ys) (suc k) lt = Contains-append_right (key y ∷ []) (map key ys) (key (slice_index_or ys k [])) (is_there ys k (omega (arith, lt)))

-- a name that wasn't found at its place isn't there
pub absent : (b : Bool) (names lent : List (List ℕ)) (k : ℕ) (x bytes : List ℕ) → b ≡ false → lent ≡ names → bytes ≡ key x
    → ((k < length lent) × (key (slice_index_or lent k []) ≡ bytes) → b ≡ true) → (k < length names) × (key (slice_index_or names k []) ≡ key x) → ⊥
absent b names lent k x bytes missed same is says at =
    true≢false (sym (says (subst (λ (l : List (List ℕ)). k < length l) (sym same) at.0, ap (λ (l : List (List ℕ)). key (slice_index_or l k [])) same ∙ at.1 ∙ sym is)) ∙ missed)

place_end : (b : Bool) (k n : ℕ) → nat_lt k n ≡ b → k ≤ n → ◌≡◌ {A = Option ℕ} None (cond b (Some k) None) → n ≡ k
place_end true k n is le none = absurd (true≢false (sym (ap (λ (o : Option ℕ). is_some o) none)))
place_end false k n is le none = grind (arith, nat_tests)

-- none from the name on: its place is the end
pub place_of-none : (name : List ℕ) (names : List (List ℕ)) (r : Option ℕ) → r ≡ None → r ≡ first_from name names → length names ≡ place_of name names
place_of-none name names r none is = place_end (nat_lt (place_of name names) (length names)) (place_of name names) (length names) refl (place-bound name names) (sym none ∙ is)

pub none_ascend : Sorted []
unfolding IsStrictlySortedBy
none_ascend = tt
