-- One caller's calls among the changes of a history: at each place first those that don't move, then the change.
use Rattle.std.proofs.Common.{◌≡◌, ℕ, suc, ◌<◌, ◌≤◌, ◌+◌, ◌==◌, refl, ◌∙◌, ap, arith, Bool, true, false, not, ◌&&◌, cond, if◌then◌else◌, ne_eqb, eq-eqb, List, [], ◌∷◌, ◌++◌, map, filter}
use Rattle.std.proofs.lemmas.Bool.{and_from, and_left, and_right, cond-true, cond-false, not_from_true}
use Rattle.doc_model.specs.declared.call.Call.{Call}
use Rattle.doc_model.specs.declared.doc.Doc.{Doc}
use Rattle.doc_model.specs.rules.Apply.{apply}
use Rattle.doc_model.specs.rules.Histories.{History, Placed, GoOn}
use Rattle.doc_model.specs.laws.Histories.{Ran, ran_by}

-- the change of a history, as it runs
abbrev pub changed : ℕ → Doc → ℕ × Call → Ran
changed k d item = record { at = k; number = item.0; call = item.1; reply = (apply d item.1).reply }

module _ (moved : Placed → Bool) where
  -- those that stand at a place and don't move
  abbrev pub is_still : ℕ → Placed → Bool
  is_still k x = (x.at == k) && not (moved x)

  abbrev pub still : ℕ → List Placed → List Placed
  still k mine = filter (is_still k) mine

  still-here : (k : ℕ) (x : Placed) (mine : List Placed) → x.at ≡ k → moved x ≡ false → still k (x ∷ mine) ≡ x ∷ still k mine
  still-here k x mine e m = cond-true (is_still k x) _ _ (and_from (x.at == k) (not (moved x)) (eq-eqb x.at k e) (ap (λ b. not b) m))

  still-elsewhere : (k : ℕ) (x : Placed) (mine : List Placed) → (x.at ≡ k → ⊥) → still k (x ∷ mine) ≡ still k mine
  still-elsewhere k x mine e = cond-false (is_still k x) _ _ (and_left (x.at == k) (not (moved x)) (ne_eqb x.at k e))

  still-moved : (k : ℕ) (x : Placed) (mine : List Placed) → moved x ≡ true → still k (x ∷ mine) ≡ still k mine
  still-moved k x mine m = cond-false (is_still k x) _ _ (and_right (x.at == k) (not (moved x)) (not_from_true (moved x) m))

  -- places that go on from here go on from before here, and behind the first one from its place
  pub go-on-before : (from before : ℕ) (mine : List Placed) → before ≤ from → GoOn (λ x. x.at) moved from mine → GoOn (λ x. x.at) moved before mine
  go-on-before from before [] le h = tt
  go-on-before from before (x ∷ xs) le h = (omega (arith, h.0), h.1)

  next-behind : (b : Bool) (at : ℕ) → at ≤ cond b (at + 1) at
  next-behind true at = omega arith
  next-behind false at = omega arith

  pub go-on-behind : (from : ℕ) (x : Placed) (mine : List Placed) → GoOn (λ x. x.at) moved from (x ∷ mine) → GoOn (λ x. x.at) moved x.at mine
  go-on-behind from x mine h = go-on-before (cond (moved x) (x.at + 1) x.at) x.at mine (next-behind (moved x) x.at) h.1

  -- before the first of them none stands
  none-still : (k from : ℕ) (mine : List Placed) → k < from → GoOn (λ x. x.at) moved from mine → still k mine ≡ []
  none-still k from [] lt h = refl
  none-still k from (x ∷ xs) lt h =
      let past : k < x.at = omega (arith, h.0) in
      still-elsewhere k x xs (λ e. omega arith) ∙ none-still k x.at xs past (go-on-behind from x xs h)

  module _ (n : ℕ) where
    -- the calls of the caller with this number and the changes under it, from a place and its document on
    abbrev pub merged : List Placed → ℕ → Doc → History → List Ran
    merged mine k d [] = map (ran_by n) (still k mine) ++ []
    merged mine k d (item ∷ rest) =
        map (ran_by n) (still k mine)
        ++ (if item.0 == n then changed k d item ∷ merged mine (suc k) (apply d item.1).doc rest else merged mine (suc k) (apply d item.1).doc rest)

    -- a call before the place is none of them
    merged-past : (x : Placed) (mine : List Placed) (k : ℕ) (d : Doc) (rest : History) → x.at < k → merged (x ∷ mine) k d rest ≡ merged mine k d rest
    merged-past x mine k d [] lt = ap (λ (xs : List Placed). map (ran_by n) xs ++ []) (still-elsewhere k x mine (λ e. omega arith))
    merged-past x mine k d (item ∷ rest) lt =
        let here = still-elsewhere k x mine (λ e. omega arith) in
        let there = merged-past x mine (suc k) (apply d item.1).doc rest (omega arith) in
        ap (λ (xs : List Placed). map (ran_by n) xs ++ (if item.0 == n then changed k d item ∷ merged (x ∷ mine) (suc k) (apply d item.1).doc rest else merged (x ∷ mine) (suc k) (apply d item.1).doc rest)) here
        ∙ ap (λ (rs : List Ran). map (ran_by n) (still k mine) ++ (if item.0 == n then changed k d item ∷ rs else rs)) there

    -- a call at the place that doesn't move is the first of them
    pub merged-still : (x : Placed) (mine : List Placed) (k : ℕ) (d : Doc) (rest : History) → x.at ≡ k → moved x ≡ false → merged (x ∷ mine) k d rest ≡ ran_by n x ∷ merged mine k d rest
    merged-still x mine k d [] e m = ap (λ (xs : List Placed). map (ran_by n) xs ++ []) (still-here k x mine e m)
    merged-still x mine k d (item ∷ rest) e m =
        let here = still-here k x mine e m in
        let there = merged-past x mine (suc k) (apply d item.1).doc rest (omega arith) in
        ap (λ (xs : List Placed). map (ran_by n) xs ++ (if item.0 == n then changed k d item ∷ merged (x ∷ mine) (suc k) (apply d item.1).doc rest else merged (x ∷ mine) (suc k) (apply d item.1).doc rest)) here
        ∙ ap (λ (rs : List Ran). ran_by n x ∷ (map (ran_by n) (still k mine) ++ (if item.0 == n then changed k d item ∷ rs else rs))) there

    -- where none stands at the place, and the change is another's, they begin at the next
    pub merged-later : (mine : List Placed) (k : ℕ) (d : Doc) (item : ℕ × Call) (rest : History) → GoOn (λ x. x.at) moved (suc k) mine → (item.0 == n) ≡ false → merged mine k d (item ∷ rest) ≡ merged mine (suc k) (apply d item.1).doc rest
    merged-later mine k d item rest h e =
        let later = merged mine (suc k) (apply d item.1).doc rest in
        ap (λ (xs : List Placed). map (ran_by n) xs ++ (if item.0 == n then changed k d item ∷ later else later)) (none-still k (suc k) mine (omega arith) h)
        ∙ cond-false (item.0 == n) (changed k d item ∷ later) later e

    -- a call at the place that moves is no other than the change
    pub merged-moved : (x : Placed) (mine : List Placed) (k : ℕ) (d : Doc) (item : ℕ × Call) (rest : History) → x.at ≡ k → moved x ≡ true → GoOn (λ x. x.at) moved (suc k) mine → (item.0 == n) ≡ true → merged (x ∷ mine) k d (item ∷ rest) ≡ changed k d item ∷ merged mine (suc k) (apply d item.1).doc rest
    merged-moved x mine k d item rest e m h own =
        let later = merged (x ∷ mine) (suc k) (apply d item.1).doc rest in
        ap (λ (xs : List Placed). map (ran_by n) xs ++ (if item.0 == n then changed k d item ∷ later else later)) (still-moved k x mine m ∙ none-still k (suc k) mine (omega arith) h)
        ∙ cond-true (item.0 == n) (changed k d item ∷ later) later own
        ∙ ap (λ (rs : List Ran). changed k d item ∷ rs) (merged-past x mine (suc k) (apply d item.1).doc rest (omega arith))
