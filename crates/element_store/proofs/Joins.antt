-- A place that is put among places in order.
use Rattle.std.proofs.Common.{◌≡◌, ℕ, zero, suc, ◌<◌, refl, sym, ◌∙◌, ap, Bool, true, false, cond, nat_lt, ◌&&◌, List, [], ◌∷◌, ◌++◌, length, map, Option, Some, None, arith, if◌then◌else◌}
use Rattle.std.proofs.lemmas.Bool.Decides.{nat_tests}
use Rattle.std.specs.List.{list_all, insert}
use Rattle.compact_values.specs.declared.ids.ExGuid.{ExGuid}
use Rattle.compact_values.specs.IdPlaces.{place_of}
use Rattle.compact_values.specs.SameIds.{same_id}
use Rattle.compact_values.proofs.IdPlacing.{new-joins}
use Rattle.compact_values.proofs.SameIds.{id-same}
use Rattle.doc_model.specs.declared.element.Element.{Element}
use Rattle.element_store.specs.Ordered.{comes_first, id_at, are_ordered, rank_in, placed, IsOrderOf}
use Rattle.element_store.proofs.IdOrder.{first-trans, other-first}
use Rattle.element_store.proofs.Ranks.{both, behind}

pub pair : (a b : Bool) → a ≡ true → b ≡ true → (a && b) ≡ true
pair true b h k = k
pair false b h k = cc

-- what it means that a test finds none
none-first : {X : Type 0} (b : Bool) (x : X) (rest : Option X) → cond b (Some x) rest ≡ None → b ≡ false
none-first true x rest h = cc
none-first false x rest h = refl

none-rest : {X : Type 0} (b : Bool) (x : X) (rest : Option X) → cond b (Some x) rest ≡ None → rest ≡ None
none-rest true x rest h = cc
none-rest false x rest h = h

module _ (at : ℕ → ExGuid) (n : ℕ) where
  abbrev pub with_place : List ℕ → List ℕ
  with_place [] = n ∷ []
  with_place (p ∷ ps) = if comes_first (at p) (at n) then p ∷ with_place ps else n ∷ p ∷ ps

  pub parts : (ps : List ℕ) → insert ps (rank_in at ps (at n)) n ≡ with_place ps
  parts [] = refl
  parts (p ∷ ps) = by_test (comes_first (at p) (at n)) (parts ps)
    where
      by_test : (b : Bool) → insert ps (rank_in at ps (at n)) n ≡ with_place ps
          → insert (p ∷ ps) (if b then suc (rank_in at ps (at n)) else 0) n ≡ (if b then p ∷ with_place ps else n ∷ p ∷ ps)
      by_test true ih = ap (λ qs. p ∷ qs) ih
      by_test false ih = refl

  all-with : (test : ℕ → Bool) (ps : List ℕ) → list_all test ps ≡ true → test n ≡ true → list_all test (with_place ps) ≡ true
  all-with test [] h k = pair (test n) true k refl
  all-with test (p ∷ ps) h k =
      let t = both (test p) (list_all test ps) h in
      by_test (comes_first (at p) (at n)) t.0 (all-with test ps t.1 k)
    where
      by_test : (b : Bool) → test p ≡ true → list_all test (with_place ps) ≡ true → list_all test (if b then p ∷ with_place ps else n ∷ p ∷ ps) ≡ true
      by_test true e ih = pair (test p) (list_all test (with_place ps)) e ih
      by_test false e ih = pair (test n) (list_all test (p ∷ ps)) k h

  -- what is before one is before those behind it
  all-behind : (p : ℕ) (ps : List ℕ) → comes_first (at n) (at p) ≡ true → behind at p ps ≡ true → behind at n ps ≡ true
  all-behind p [] h b = refl
  all-behind p (q ∷ ps) h b =
      let t = both (comes_first (at p) (at q)) (behind at p ps) b in
      pair (comes_first (at n) (at q)) (behind at n ps) (first-trans (at n) (at p) (at q) h t.0) (all-behind p ps h t.1)

  pub ordered : (ps : List ℕ) → are_ordered at ps ≡ true → placed at ps (at n) ≡ None → are_ordered at (with_place ps) ≡ true
  ordered [] o f = refl
  ordered (p ∷ ps) o f =
      let t = both (behind at p ps) (are_ordered at ps) o in
      by_test (comes_first (at p) (at n)) refl t.0 (ordered ps t.1 (none-rest (same_id (at p) (at n)) p (placed at ps (at n)) f))
    where
      by_test : (b : Bool) → comes_first (at p) (at n) ≡ b → behind at p ps ≡ true → are_ordered at (with_place ps) ≡ true
          → are_ordered at (if b then p ∷ with_place ps else n ∷ p ∷ ps) ≡ true
      by_test true e a ih = pair (behind at p (with_place ps)) (are_ordered at (with_place ps)) (all-with (λ q. comes_first (at p) (at q)) ps a e) ih
      by_test false e a ih =
          let h = other-first (at p) (at n) e (none-first (same_id (at p) (at n)) p (placed at ps (at n)) f) in
          pair (behind at n (p ∷ ps)) (are_ordered at (p ∷ ps)) (pair (comes_first (at n) (at p)) (behind at n ps) h (all-behind p ps h a)) o

  pub found : (ps : List ℕ) (q : ExGuid) → placed at ps (at n) ≡ None → placed at (with_place ps) q ≡ cond (same_id (at n) q) (Some n) (placed at ps q)
  found [] q f = refl
  found (p ∷ ps) q f =
      by_test (comes_first (at p) (at n)) (found ps q (none-rest (same_id (at p) (at n)) p (placed at ps (at n)) f))
    where
      differs : same_id (at p) (at n) ≡ false
      differs = none-first (same_id (at p) (at n)) p (placed at ps (at n)) f

      swapped : (b c : Bool) → same_id (at p) q ≡ b → same_id (at n) q ≡ c → cond b (Some p) (cond c (Some n) (placed at ps q)) ≡ cond c (Some n) (cond b (Some p) (placed at ps q))
      swapped true true e k =
          let h : true ≡ false =
          sym e ∙ ap (same_id (at p)) (sym (id-same (at n) q k)) ∙ differs in
          cc
      swapped true false e k = refl
      swapped false c e k = refl

      by_test : (b : Bool) → placed at (with_place ps) q ≡ cond (same_id (at n) q) (Some n) (placed at ps q)
          → placed at (if b then p ∷ with_place ps else n ∷ p ∷ ps) q ≡ cond (same_id (at n) q) (Some n) (placed at (p ∷ ps) q)
      by_test true ih = ap (λ o. cond (same_id (at p) q) (Some p) o) ih ∙ swapped (same_id (at p) q) (same_id (at n) q) refl refl
      by_test false ih = refl

-- two ways to tell ids that agree on the places
module _ (f g : ℕ → ExGuid) (test : ℕ → Bool) (agree : (p : ℕ) → test p ≡ true → f p ≡ g p) where
  same-behind : (p : ℕ) (ps : List ℕ) → f p ≡ g p → list_all test ps ≡ true → behind f p ps ≡ behind g p ps
  same-behind p [] e h = refl
  same-behind p (q ∷ ps) e h =
      let t = both (test q) (list_all test ps) h in
      ap (λ i. comes_first i (f q) && behind f p ps) e
      ∙ ap (λ i. comes_first (g p) i && behind f p ps) (agree q t.0)
      ∙ ap (λ b. comes_first (g p) (g q) && b) (same-behind p ps e t.1)

  pub same-ordered : (ps : List ℕ) → list_all test ps ≡ true → are_ordered f ps ≡ are_ordered g ps
  same-ordered [] h = refl
  same-ordered (p ∷ ps) h =
      let t = both (test p) (list_all test ps) h in
      ap (λ b. b && are_ordered f ps) (same-behind p ps (agree p t.0) t.1) ∙ ap (λ b. behind g p ps && b) (same-ordered ps t.1)

  pub same-rank : (ps : List ℕ) (id : ExGuid) → list_all test ps ≡ true → rank_in f ps id ≡ rank_in g ps id
  same-rank [] id h = refl
  same-rank (p ∷ ps) id h =
      let t = both (test p) (list_all test ps) h in
      ap (λ i. cond (comes_first i id) (suc (rank_in f ps id)) 0) (agree p t.0) ∙ ap (λ k. cond (comes_first (g p) id) (suc k) 0) (same-rank ps id t.1)

  pub same-placed : (ps : List ℕ) (id : ExGuid) → list_all test ps ≡ true → placed f ps id ≡ placed g ps id
  same-placed [] id h = refl
  same-placed (p ∷ ps) id h =
      let t = both (test p) (list_all test ps) h in
      ap (λ i. cond (same_id i id) (Some p) (placed f ps id)) (agree p t.0) ∙ ap (λ o. cond (same_id (g p) id) (Some p) o) (same-placed ps id t.1)

-- elements that get one more
id-stays : (es more : List Element) (p : ℕ) → nat_lt p (length es) ≡ true → id_at (es ++ more) p ≡ id_at es p
id-stays [] more p h = let l : p < 0 = grind (arith, nat_tests) in absurd (omega arith)
id-stays (e ∷ es) more zero h = refl
id-stays (e ∷ es) more (suc p) h = id-stays es more p (grind (arith, nat_tests))

id-last : (es : List Element) (e : Element) → id_at (es ++ e ∷ []) (length es) ≡ e.id
id-last [] e = refl
id-last (x ∷ es) e = id-last es e

longer : (es : List Element) (e : Element) → length (es ++ e ∷ []) ≡ suc (length es)
longer [] e = refl
longer (x ∷ es) e = ap suc (longer es e)

ids-append : (es : List Element) (e : Element) → map (λ x. x.id) (es ++ e ∷ []) ≡ map (λ x. x.id) es ++ e.id ∷ []
ids-append [] e = refl
ids-append (x ∷ es) e = ap (λ ids. x.id ∷ ids) (ids-append es e)

ids-length : (es : List Element) → length (map (λ x. x.id) es) ≡ length es
ids-length [] = refl
ids-length (x ∷ es) = ap suc (ids-length es)

within-more : (n : ℕ) (ps : List ℕ) → list_all (λ p. nat_lt p n) ps ≡ true → list_all (λ p. nat_lt p (suc n)) ps ≡ true
within-more n [] h = refl
within-more n (p ∷ ps) h =
    let t = both (nat_lt p n) (list_all (λ q. nat_lt q n) ps) h in
    pair (nat_lt p (suc n)) (list_all (λ q. nat_lt q (suc n)) ps) (grind (arith, nat_tests, t.0)) (within-more n ps t.1)

module _ (es : List Element) (ps : List ℕ) (e : Element) (is : IsOrderOf es ps) (fresh : place_of (map (λ x. x.id) es) e.id ≡ None) where
  now : List Element
  now = es ++ e ∷ []

  agree : (p : ℕ) → nat_lt p (length es) ≡ true → id_at (es ++ e ∷ []) p ≡ id_at es p
  agree p h = id-stays es (e ∷ []) p h

  none : placed (id_at (es ++ e ∷ [])) ps (id_at (es ++ e ∷ []) (length es)) ≡ None
  none =
      ap (placed (id_at (es ++ e ∷ [])) ps) (id-last es e)
      ∙ same-placed (id_at (es ++ e ∷ [])) (id_at es) (λ p. nat_lt p (length es)) agree ps e.id is.within
      ∙ is.found e.id
      ∙ fresh

  places : insert ps (rank_in (id_at es) ps e.id) (length es) ≡ with_place (id_at (es ++ e ∷ [])) (length es) ps
  places =
      ap (λ r. insert ps r (length es))
      (sym (same-rank (id_at (es ++ e ∷ [])) (id_at es) (λ p. nat_lt p (length es)) agree ps e.id is.within) ∙ ap (rank_in (id_at (es ++ e ∷ [])) ps) (sym (id-last es e)))
      ∙ parts (id_at (es ++ e ∷ [])) (length es) ps

  found-now : (q : ExGuid) → placed (id_at (es ++ e ∷ [])) (with_place (id_at (es ++ e ∷ [])) (length es) ps) q ≡ place_of (map (λ x. x.id) (es ++ e ∷ [])) q
  found-now q =
      found (id_at (es ++ e ∷ [])) (length es) ps q none
      ∙ ap (λ i. cond (same_id i q) (Some (length es)) (placed (id_at (es ++ e ∷ [])) ps q)) (id-last es e)
      ∙ ap (λ o. cond (same_id e.id q) (Some (length es)) o) (same-placed (id_at (es ++ e ∷ [])) (id_at es) (λ p. nat_lt p (length es)) agree ps q is.within ∙ is.found q)
      ∙ ap (λ k. cond (same_id e.id q) (Some k) (place_of (map (λ x. x.id) es) q)) (sym (ids-length es))
      ∙ sym (new-joins (map (λ x. x.id) es) e.id q fresh)
      ∙ ap (λ ids. place_of ids q) (sym (ids-append es e))

  -- the place of the new element, put at its rank, keeps the order
  pub grown : IsOrderOf (es ++ e ∷ []) (insert ps (rank_in (id_at es) ps e.id) (length es))
  grown =
      let at = id_at (es ++ e ∷ []) in
      let w = with_place at (length es) ps in
      record {
        ordered =
            ap (are_ordered at) places
            ∙ ordered at (length es) ps (same-ordered at (id_at es) (λ p. nat_lt p (length es)) agree ps is.within ∙ is.ordered) none;
        within =
            ap (list_all (λ p. nat_lt p (length (es ++ e ∷ [])))) places
            ∙ ap (λ k. list_all (λ p. nat_lt p k) w) (longer es e)
            ∙ all-with at (length es) (λ p. nat_lt p (suc (length es))) ps (within-more (length es) ps is.within) (grind (arith, nat_tests));
        found = λ q. ap (λ qs. placed at qs q) places ∙ found-now q;
      }

pub grown-at : (es after : List Element) (ps places : List ℕ) (e : Element) (r n : ℕ) → IsOrderOf es ps → place_of (map (λ x. x.id) es) e.id ≡ None
    → after ≡ es ++ e ∷ [] → places ≡ insert ps r n → r ≡ rank_in (id_at es) ps e.id → n ≡ length es → IsOrderOf after places
grown-at es after ps places e r n is fresh a b k l = rw (a, b, k, l) (grown es ps e is fresh)
