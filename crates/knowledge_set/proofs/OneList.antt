-- Ranges that are maximal are told by the numbers that they have.
use Rattle.std.proofs.Common.{◌≡◌, ℕ, ◌+◌, ◌<◌, ◌≤◌, refl, sym, ◌∙◌, ap, Bool, true, false, nat_lt, ◌||◌, ◌⊎◌, inl, inr, List, [], ◌∷◌, arith}
use Rattle.std.proofs.lemmas.Bool.Decides.{nat_tests}
use Rattle.std.specs.List.{list_all}
use Rattle.compact_values.specs.declared.guid.Guid.{Guid}
use Rattle.doc_model.specs.declared.knowledge.Range.{Range}
use Rattle.doc_model.specs.rules.Pulls.{knows}
use Rattle.knowledge_set.specs.Maximal.{has_some, is_apart, are_maximal, KnowTheSame, OneMaximalList}
use Rattle.knowledge_set.specs.Joined.{has}
use Rattle.knowledge_set.proofs.Apart.{other-lacks, next-lacks, own-next, own-first, in-own, in-other, reaches}
use Rattle.knowledge_set.proofs.Placing.{both, some-first, apart-first, maximal-rest}

-- those behind a range have none of its numbers, nor the one next to its last
rest-lacks : (x : Range) (ys : List Range) (g : Guid) (k : ℕ) → list_all (is_apart x) ys ≡ true → has g k x ≡ true → knows g ys k ≡ false
rest-lacks x [] g k a h = refl
rest-lacks x (y ∷ ys) g k a h =
    let t = both (is_apart x y) (list_all (is_apart x) ys) a in
    rw (other-lacks x y g k t.0 h) (rest-lacks x ys g k t.1 h)

next-free : (x : Range) (ys : List Range) → list_all (is_apart x) ys ≡ true → knows x.guid ys (x.to + 1) ≡ false
next-free x [] a = refl
next-free x (y ∷ ys) a =
    let t = both (is_apart x y) (list_all (is_apart x) ys) a in
    rw (next-lacks x y t.0) (next-free x ys t.1)

-- a number that a list has isn't before its first range

not-before : (x : Range) (xs : List Range) (g : Guid) (k : ℕ) → has_some x ≡ true → list_all (is_apart x) xs ≡ true → (has g k x || knows g xs k) ≡ true
    → (x.guid.number < g.number) ⊎ ((x.guid.number ≡ g.number) × (x.from ≤ k))
not-before x xs g k s a h = at (has g k x) refl h
  where
    behind : (ys : List Range) → list_all (is_apart x) ys ≡ true → knows g ys k ≡ true → (x.guid.number < g.number) ⊎ ((x.guid.number ≡ g.number) × (x.from ≤ k))
    behind [] b q = cc
    behind (y ∷ ys) b q =
        let t = both (is_apart x y) (list_all (is_apart x) ys) b in
        one (has g k y) refl q t.0 (λ r. behind ys t.1 r)
      where
        one : (d : Bool) → has g k y ≡ d → (d || knows g ys k) ≡ true → is_apart x y ≡ true
            → (knows g ys k ≡ true → (x.guid.number < g.number) ⊎ ((x.guid.number ≡ g.number) × (x.from ≤ k)))
            → (x.guid.number < g.number) ⊎ ((x.guid.number ≡ g.number) × (x.from ≤ k))
        one true e r n rest = in-other x y g k n s e
        one false e r n rest = rest r

    at : (d : Bool) → has g k x ≡ d → (d || knows g xs k) ≡ true → (x.guid.number < g.number) ⊎ ((x.guid.number ≡ g.number) × (x.from ≤ k))
    at true e r = inr (in-own x g k e)
    at false e r = behind xs a r

module _ (x y : Range) (xs ys : List Range) (m : are_maximal (x ∷ xs) ≡ true) (n : are_maximal (y ∷ ys) ≡ true) (same : KnowTheSame (x ∷ xs) (y ∷ ys)) where
  -- the second list's first range doesn't begin behind the first one's
  begins : (y.guid.number < x.guid.number) ⊎ ((y.guid.number ≡ x.guid.number) × (y.from ≤ x.from))
  begins =
      not-before y ys x.guid x.from (some-first y ys n) (apart-first y ys n)
      (sym (same x.guid x.from) ∙ ap (λ b. b || knows x.guid xs x.from) (own-first x (some-first x xs m)))

  -- nor, where both begin at the same number, does it end behind the first one's
  ends : x.guid.number ≡ y.guid.number → x.from ≡ y.from → y.to ≤ x.to
  ends g f = at (nat_lt x.to y.to) refl
    where
      at : (b : Bool) → nat_lt x.to y.to ≡ b → y.to ≤ x.to
      at true e =
          let reached : knows x.guid (y ∷ ys) (x.to + 1) ≡ true =
          ap (λ b. b || knows x.guid ys (x.to + 1)) (reaches x y g f (some-first x xs m) (let l : x.to < y.to = grind (arith, nat_tests) in l)) in
          let free : knows x.guid (x ∷ xs) (x.to + 1) ≡ false =
          rw (own-next x) (next-free x xs (apart-first x xs m)) in
          let both-ways : false ≡ true = sym free ∙ same x.guid (x.to + 1) ∙ reached in
          cc
      at false e = grind (arith, nat_tests)

  -- and where the first ranges are the same, the others have the same numbers
  others : x ≡ y → KnowTheSame xs ys
  others e g k = at (has g k x) refl (same g k)
    where
      at : (b : Bool) → has g k x ≡ b → (b || knows g xs k) ≡ (has g k y || knows g ys k) → knows g xs k ≡ knows g ys k
      at true h q = rest-lacks x xs g k (apart-first x xs m) h ∙ sym (rest-lacks y ys g k (apart-first y ys n) (sym (ap (has g k) e) ∙ h))
      at false h q = q ∙ ap (λ b. b || knows g ys k) (sym (ap (has g k) e) ∙ h)

range-same : (x y : Range) → x.guid.number ≡ y.guid.number → x.from ≡ y.from → x.to ≡ y.to → x ≡ y
range-same x y g f t =
    ap (λ (n : ℕ). record { guid = record { number = n }; from = x.from; to = x.to }) g
    ∙ ap (λ (n : ℕ). record { guid = y.guid; from = n; to = x.to }) f
    ∙ ap (λ (n : ℕ). record { guid = y.guid; from = y.from; to = n }) t

first-same : (x y : Range) → (y.guid.number < x.guid.number) ⊎ ((y.guid.number ≡ x.guid.number) × (y.from ≤ x.from))
    → (x.guid.number < y.guid.number) ⊎ ((x.guid.number ≡ y.guid.number) × (x.from ≤ y.from)) → (x.guid.number ≡ y.guid.number) × (x.from ≡ y.from)
first-same x y (inl p) (inl q) = absurd (omega arith)
first-same x y (inl p) (inr q) = absurd (omega (arith, q.0))
first-same x y (inr p) (inl q) = absurd (omega (arith, p.0))
first-same x y (inr p) (inr q) = (q.0, omega (arith, p.1, q.1))

pub one-list : OneMaximalList
one-list [] [] m n same = refl
one-list [] (y ∷ ys) m n same =
    let h : false ≡ true = same y.guid y.from ∙ ap (λ b. b || knows y.guid ys y.from) (own-first y (some-first y ys n)) in
    cc
one-list (x ∷ xs) [] m n same =
    let h : false ≡ true = sym (same x.guid x.from) ∙ ap (λ b. b || knows x.guid xs x.from) (own-first x (some-first x xs m)) in
    cc
one-list (x ∷ xs) (y ∷ ys) m n same =
    let back : KnowTheSame (y ∷ ys) (x ∷ xs) = λ g k. sym (same g k) in
    let t = first-same x y (begins x y xs ys m n same) (begins y x ys xs n m back) in
    let to-y = ends x y xs ys m n same t.0 t.1 in
    let to-x = ends y x ys xs n m back (sym t.0) (sym t.1) in
    let e : x ≡ y = range-same x y t.0 t.1 (omega (arith, to-x, to-y)) in
    ap (λ (r : Range). r ∷ xs) e ∙ ap (λ (rs : List Range). y ∷ rs) (one-list xs ys (maximal-rest x xs m) (maximal-rest y ys n) (others x y xs ys m n same e))
