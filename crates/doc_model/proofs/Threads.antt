-- A run of all callers: at each place of the history first their calls that don't move, caller by caller, then the change.
use Rattle.std.proofs.Common.{◌≡◌, ℕ, suc, ◌==◌, nat_eq, refl, sym, ◌∙◌, ap, Bool, true, false, cond, if◌then◌else◌, eq-eqb, ne_eqb, List, [], ◌∷◌, ◌++◌, append-nil, map, flat_map, filter}
use Rattle.std.specs.List.{AllByRecursion as Each, IsDistinct}
use Rattle.std.proofs.lemmas.Bool.{cond-true, cond-false, eqb-false}
use Rattle.std.proofs.lemmas.List.Elements.{filter-append}
use Rattle.doc_model.specs.declared.doc.Doc.{Doc}
use Rattle.doc_model.specs.rules.Apply.{apply}
use Rattle.doc_model.specs.rules.Histories.{History, Placed}
use Rattle.doc_model.specs.laws.Histories.{Ran, ran_by}
use Rattle.doc_model.proofs.EachItem.{each-as, each-both, each-map}
use Rattle.doc_model.proofs.Merging.{changed, merged, still}

-- what ran under a number
abbrev pub under : ℕ → List Ran → List Ran
under n run = filter (λ x. x.number == n) run

-- of one caller's calls all or none
kept : (m n : ℕ) (mine : List Placed) (b : Bool) → (m == n) ≡ b → under n (map (ran_by m) mine) ≡ cond b (map (ran_by m) mine) []
kept m n [] true e = refl
kept m n [] false e = refl
kept m n (x ∷ xs) true e = cond-true (m == n) _ _ e ∙ ap (λ (rs : List Ran). ran_by m x ∷ rs) (kept m n xs true e)
kept m n (x ∷ xs) false e = cond-false (m == n) _ _ e ∙ kept m n xs false e

others : (m n : ℕ) → (m == n) ≡ false → (n == m) ≡ false
others m n e = ne_eqb n m (λ h. eqb-false m n e (sym h))

module _ (moved : Placed → Bool) where
  -- a caller's calls at a place that don't move, and those of all of them
  abbrev pub still_of : ℕ → ℕ × List Placed → List Ran
  still_of k c = map (ran_by c.0) (still moved k c.1)

  abbrev pub all_still : ℕ → List (ℕ × List Placed) → List Ran
  all_still k callers = flat_map (still_of k) callers

  abbrev pub run_from : List (ℕ × List Placed) → ℕ → Doc → History → List Ran
  run_from callers k d [] = all_still k callers ++ []
  run_from callers k d (item ∷ rest) = all_still k callers ++ changed k d item ∷ run_from callers (suc k) (apply d item.1).doc rest

  none-under : (k n : ℕ) (callers : List (ℕ × List Placed)) → Each (λ c. (c.0 == n) ≡ false) callers → under n (all_still k callers) ≡ []
  none-under k n [] h = refl
  none-under k n (c ∷ cs) h =
      let first = kept c.0 n (still moved k c.1) false h.0 in
      let rest = none-under k n cs h.1 in
      filter-append (λ x. x.number == n) (still_of k c) (all_still k cs) ∙ ap (λ (rs : List Ran). rs ++ under n (all_still k cs)) first ∙ rest

  pub own-under : (k : ℕ) (callers : List (ℕ × List Placed)) → IsDistinct nat_eq (map (λ c. c.0) callers) → Each (λ c. under c.0 (all_still k callers) ≡ still_of k c) callers
  unfolding IsDistinct
  own-under k [] h = tt
  own-under k (c ∷ cs) h =
      let differ = each-map (λ y. nat_eq c.0 y ≡ false) (λ x. x.0) cs h.0 in (
        filter-append (λ x. x.number == c.0) (still_of k c) (all_still k cs)
            ∙ ap (λ (rs : List Ran). rs ++ under c.0 (all_still k cs)) (kept c.0 c.0 (still moved k c.1) true (eq-eqb c.0 c.0 refl))
            ∙ ap (λ (rs : List Ran). still_of k c ++ rs) (none-under k c.0 cs (each-as (λ x. nat_eq c.0 x.0 ≡ false) (λ x. (x.0 == c.0) ≡ false) cs (λ x e. others c.0 x.0 e) differ))
            ∙ append-nil (still_of k c),
        each-as (λ x. (nat_eq c.0 x.0 ≡ false) × (under x.0 (all_still k cs) ≡ still_of k x)) (λ x. under x.0 (still_of k c ++ all_still k cs) ≡ still_of k x) cs
            (λ x e. filter-append (λ y. y.number == x.0) (still_of k c) (all_still k cs)
            ∙ ap (λ (rs : List Ran). rs ++ under x.0 (all_still k cs)) (kept c.0 x.0 (still moved k c.1) false e.0) ∙ e.1)
            (each-both (λ x. nat_eq c.0 x.0 ≡ false) (λ x. under x.0 (all_still k cs) ≡ still_of k x) cs differ (own-under k cs h.1)),
      )

  -- what a caller ran are its calls, merged with the changes under its number
  pub run-merged : (callers : List (ℕ × List Placed)) (c : ℕ × List Placed) → ((k : ℕ) → under c.0 (all_still k callers) ≡ still_of k c)
      → (k : ℕ) (d : Doc) (rest : History) → under c.0 (run_from callers k d rest) ≡ merged moved c.0 c.1 k d rest
  run-merged callers c own k d [] =
      filter-append (λ x. x.number == c.0) (all_still k callers) [] ∙ ap (λ (rs : List Ran). rs ++ []) (own k)
  run-merged callers c own k d (item ∷ rest) =
      let next = run_from callers (suc k) (apply d item.1).doc rest in
      filter-append (λ x. x.number == c.0) (all_still k callers) (changed k d item ∷ next)
      ∙ ap (λ (rs : List Ran). rs ++ (if item.0 == c.0 then changed k d item ∷ under c.0 next else under c.0 next)) (own k)
      ∙ ap (λ (rs : List Ran). still_of k c ++ (if item.0 == c.0 then changed k d item ∷ rs else rs)) (run-merged callers c own (suc k) (apply d item.1).doc rest)
