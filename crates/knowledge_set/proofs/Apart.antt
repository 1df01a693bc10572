-- When ranges are apart, and what they have together where they aren't.
use Rattle.std.proofs.Common.{◌≡◌, ℕ, ◌+◌, ◌<◌, ◌≤◌, refl, Bool, true, false, nat_lt, ◌||◌, ◌⊎◌, inl, inr, arith}
use Rattle.std.proofs.lemmas.Bool.Decides.{nat_tests}
use Rattle.compact_values.specs.declared.guid.Guid.{Guid}
use Rattle.doc_model.specs.declared.knowledge.Range.{Range}
use Rattle.knowledge_set.specs.Maximal.{has_some, is_apart}
use Rattle.knowledge_set.specs.Joined.{has, hull}

pub trans : (a b c : Range) → is_apart a b ≡ true → has_some b ≡ true → is_apart b c ≡ true → is_apart a c ≡ true
trans a b c h s k = grind (arith, nat_tests)

-- what comes behind one that isn't apart before a range isn't either
pub apart-or-not : (x y r : Range) → is_apart x y ≡ true → has_some y ≡ true → is_apart x r ≡ false → is_apart y r ≡ false
apart-or-not x y r h s n = grind (arith, nat_tests)

-- neither of the two is before the other
pub hull-has : (a b : Range) (g : Guid) (k : ℕ) → has_some a ≡ true → has_some b ≡ true → is_apart a b ≡ false → is_apart b a ≡ false
    → (has g k a || has g k b) ≡ has g k (hull a b)
hull-has a b g k s t h e = grind (arith, nat_tests)

pub hull-some : (a b : Range) → has_some a ≡ true → has_some (hull a b) ≡ true
hull-some a b s = grind (arith, nat_tests)

-- what is apart before both is apart before the hull, and the other way round
pub before-hull : (x a b : Range) → is_apart x a ≡ true → is_apart x b ≡ true → is_apart a b ≡ false → is_apart x (hull a b) ≡ true
before-hull x a b h k n = grind (arith, nat_tests)

pub not-before-hull : (x a b : Range) → is_apart x a ≡ false → is_apart x (hull a b) ≡ false
not-before-hull x a b h = grind (arith, nat_tests)

-- a range that isn't apart before a number, and one that is apart behind it
pub behind-lacks : (x y : Range) (g : Guid) (k : ℕ) → is_apart x (record { guid = g; from = k; to = k }) ≡ false → is_apart x y ≡ true → has g k y ≡ false
behind-lacks x y g k h e = grind (arith, nat_tests)

pub before-lacks : (x : Range) (g : Guid) (k : ℕ) → is_apart x (record { guid = g; from = k; to = k }) ≡ true → has g k x ≡ false
before-lacks x g k h = grind (arith, nat_tests)

pub empty-has : (r : Range) (g : Guid) (k : ℕ) → r.to < r.from → has g k r ≡ false
empty-has r g k h = grind (arith, nat_tests)

pub has-one : (r : Range) → r.from ≤ r.to → has_some r ≡ true
has-one r h = grind (arith, nat_tests)

pub one-had : (r : Range) → has_some r ≡ true → r.from ≤ r.to
one-had r h = grind (arith, nat_tests)

-- a range and another that is apart behind it
pub other-lacks : (x y : Range) (g : Guid) (k : ℕ) → is_apart x y ≡ true → has g k x ≡ true → has g k y ≡ false
other-lacks x y g k h e = grind (arith, nat_tests)

pub next-lacks : (x y : Range) → is_apart x y ≡ true → has x.guid (x.to + 1) y ≡ false
next-lacks x y h = grind (arith, nat_tests)

pub own-next : (x : Range) → has x.guid (x.to + 1) x ≡ false
own-next x = grind (arith, nat_tests)

pub own-first : (x : Range) → has_some x ≡ true → has x.guid x.from x ≡ true
own-first x h = grind (arith, nat_tests)

-- a number that is in a range, by the range's first
pub in-own : (x : Range) (g : Guid) (k : ℕ) → has g k x ≡ true → (x.guid.number ≡ g.number) × (x.from ≤ k)
in-own x g k h = (grind (arith, nat_tests), grind (arith, nat_tests))

pub in-other : (x y : Range) (g : Guid) (k : ℕ) → is_apart x y ≡ true → has_some x ≡ true → has g k y ≡ true → (x.guid.number < g.number) ⊎ ((x.guid.number ≡ g.number) × (x.from ≤ k))
in-other x y g k h s e = at (nat_lt x.guid.number y.guid.number) refl
  where
    at : (b : Bool) → nat_lt x.guid.number y.guid.number ≡ b → (x.guid.number < g.number) ⊎ ((x.guid.number ≡ g.number) × (x.from ≤ k))
    at true p = inl (grind (arith, nat_tests))
    at false p = inr (grind (arith, nat_tests), grind (arith, nat_tests))

pub reaches : (x y : Range) → x.guid.number ≡ y.guid.number → x.from ≡ y.from → has_some x ≡ true → x.to < y.to → has x.guid (x.to + 1) y ≡ true
reaches x y g f s l = grind (arith, nat_tests)
