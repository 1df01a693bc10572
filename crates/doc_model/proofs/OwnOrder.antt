-- The calls of a caller that stand in a history, merged with the changes under its number, are its own calls in order.
use Rattle.std.proofs.Common.{◌≡◌, ℕ, suc, ◌≤◌, ◌+◌, ◌==◌, refl, sym, ◌∙◌, ap, arith, Bool, true, false, cond, eqb-true, eq-eqb, List, [], ◌∷◌, length, map, take, Some}
use Rattle.std.specs.List.{AllByRecursion as Each, slice_get}
use Rattle.std.proofs.lemmas.Bool.{cond-true, cond-false, eqb-false}
use Rattle.std.proofs.lemmas.List.Elements.{recursion_from_All}
use Rattle.std.proofs.lemmas.Option.{slice_get_within}
use Rattle.doc_model.specs.declared.call.Call.{Call}
use Rattle.doc_model.specs.declared.doc.Doc.{Doc}
use Rattle.doc_model.specs.rules.Apply.{apply, replay}
use Rattle.doc_model.specs.rules.Histories.{History, Placed, GoOn, Stands, calls_by, moved_calls, moves, effect_at}
use Rattle.doc_model.specs.laws.Histories.{Ran, ran_by}
use Rattle.doc_model.proofs.Merging.{changed, merged, merged-still, merged-later, merged-moved, go-on-before, go-on-behind}
use Rattle.doc_model.proofs.Places.{IsAt, first-place, next-place, call-at, last-place}

-- the calls under a number and those that moved, of one more
calls-own : (n : ℕ) (item : ℕ × Call) (rest : History) → (item.0 == n) ≡ true → calls_by n (item ∷ rest) ≡ item.1 ∷ calls_by n rest
calls-own n item rest e = ap (λ (xs : History). map (λ x. x.1) xs) (cond-true (item.0 == n) _ _ e)

calls-other : (n : ℕ) (item : ℕ × Call) (rest : History) → (item.0 == n) ≡ false → calls_by n (item ∷ rest) ≡ calls_by n rest
calls-other n item rest e = ap (λ (xs : History). map (λ x. x.1) xs) (cond-false (item.0 == n) _ _ e)

module _ (moved : Placed → Bool) where
  moved-own : (x : Placed) (xs : List Placed) → moved x ≡ true → moved_calls moved (x ∷ xs) ≡ x.call ∷ moved_calls moved xs
  moved-own x xs e = ap (λ (ys : List Placed). map (λ y. y.call) ys) (cond-true (moved x) _ _ e)

  moved-other : (x : Placed) (xs : List Placed) → moved x ≡ false → moved_calls moved (x ∷ xs) ≡ moved_calls moved xs
  moved-other x xs e = ap (λ (ys : List Placed). map (λ y. y.call) ys) (cond-false (moved x) _ _ e)

-- what is said of each call that stands in a history
pub record IsPlaced (doc : Doc) (history : History) (moved : Placed → Bool) (n : ℕ) (x : Placed) : Type 0 where
  pub within : x.at ≤ length history
  pub reply : x.reply ≡ (effect_at doc history x.at x.call).reply
  pub held : moved x ≡ true → slice_get history x.at ≡ Some (n, x.call)

-- No more of the calls moved than are left under the number. Where they are as many, the merged ones are just these calls.
record IsMerged (moved : Placed → Bool) (n : ℕ) (mine : List Placed) (k : ℕ) (d : Doc) (rest : History) : Type 0 where
  few : length (moved_calls moved mine) ≤ length (calls_by n rest)
  whole : length (calls_by n rest) ≤ length (moved_calls moved mine) → merged moved n mine k d rest ≡ map (ran_by n) mine

module _ (doc : Doc) (history : History) (moved : Placed → Bool) (n : ℕ) where
  -- none of them stands at the place
  later : (mine : List Placed) (k : ℕ) (d : Doc) (item : ℕ × Call) (rest : History) → GoOn (λ x. x.at) moved (suc k) mine
      → IsMerged moved n mine (suc k) (apply d item.1).doc rest → IsMerged moved n mine k d (item ∷ rest)
  later mine k d item rest g ih = at (item.0 == n) refl
    where
      at : (b : Bool) → (item.0 == n) ≡ b → IsMerged moved n mine k d (item ∷ rest)
      at true e =
          let one = ap (λ (cs : List Call). length cs) (calls-own n item rest e) in
          let few = ih.few in record { few = omega arith; whole = λ h. absurd (omega arith) }
      at false e =
          let same = ap (λ (cs : List Call). length cs) (calls-other n item rest e) in
          let few = ih.few in record {
            few = omega arith;
            whole = λ h. merged-later moved n mine k d item rest g e ∙ ih.whole (omega arith);
          }

  -- the first one stands there and doesn't move
  stays : (x : Placed) (xs : List Placed) (k : ℕ) (d : Doc) (rest : History) → x.at ≡ k → moved x ≡ false
      → IsMerged moved n xs k d rest → IsMerged moved n (x ∷ xs) k d rest
  stays x xs k d rest e m ih =
      let same = ap (λ (cs : List Call). length cs) (moved-other moved x xs m) in
      let few = ih.few in record {
        few = omega arith;
        whole = λ h. merged-still moved n x xs k d rest e m ∙ ap (λ (rs : List Ran). ran_by n x ∷ rs) (ih.whole (omega arith));
      }

  -- the first one is the change
  same-change : (x : Placed) (k : ℕ) (d : Doc) (item : ℕ × Call) → d ≡ replay doc (take k history) → x.at ≡ k → item ≡ (n, x.call)
      → x.reply ≡ (effect_at doc history x.at x.call).reply → changed k d item ≡ ran_by n x
  same-change x k d item p e i r =
      ap (λ (y : ℕ × Call). changed k d y) i
      ∙ ap (λ (y : Doc). changed k y (n, x.call)) (p ∙ sym (ap (λ (j : ℕ). replay doc (take j history)) e))
      ∙ ap (λ (j : ℕ). changed j (replay doc (take x.at history)) (n, x.call)) (sym e)
      ∙ ap (λ y. record { at = x.at; number = n; call = x.call; reply = y }) (sym r)

  moves-there : (x : Placed) (xs : List Placed) (k : ℕ) (d : Doc) (item : ℕ × Call) (rest : History) → IsAt doc history k d (item ∷ rest)
      → x.at ≡ k → moved x ≡ true → IsPlaced doc history moved n x → GoOn (λ x. x.at) moved (suc k) xs
      → IsMerged moved n xs (suc k) (apply d item.1).doc rest → IsMerged moved n (x ∷ xs) k d (item ∷ rest)
  moves-there x xs k d item rest p e m there g ih =
      let held = there.held m in
      let found = call-at doc history k d item rest p in
      let at = ap (λ (j : ℕ). slice_get history j) e in
      let is : item ≡ (n, x.call) = cc in
      let own : (item.0 == n) ≡ true = eq-eqb item.0 n (ap (λ (y : ℕ × Call). y.0) is) in
      let one = ap (λ (cs : List Call). length cs) (moved-own moved x xs m) in
      let other = ap (λ (cs : List Call). length cs) (calls-own n item rest own) in
      let few = ih.few in record {
        few = omega arith;
        whole = λ h.
            merged-moved moved n x xs k d item rest e m g own ∙ ap (λ (rs : List Ran). changed k d item ∷ rs) (ih.whole (omega arith))
            ∙ ap (λ (y : Ran). y ∷ map (ran_by n) xs) (same-change x k d item p.there e is there.reply);
      }

  -- no call moves at the end, or stands behind it
  module _ (k : ℕ) (d : Doc) (p : IsAt doc history k d []) where
    at-end : (mine : List Placed) → Each (IsPlaced doc history moved n) mine → GoOn (λ x. x.at) moved k mine → IsMerged moved n mine k d []
    at-end [] e g = record { few = omega arith; whole = λ h. refl }
    at-end (x ∷ xs) e g = at (x.at == k) refl (moved x) refl (at-end xs e.1 (go-on-before moved x.at k xs g.0 (go-on-behind moved k x xs g)))
      where
        past : length history ≤ k
        past = last-place doc history k d p

        at : (b : Bool) → (x.at == k) ≡ b → (c : Bool) → moved x ≡ c → IsMerged moved n xs k d [] → IsMerged moved n (x ∷ xs) k d []
        at false h c m ih = let not_here = eqb-false x.at k h in absurd (omega (arith, past, g.0, e.0.within))
        at true h false m ih = stays x xs k d [] (eqb-true x.at k h) m ih
        at true h true m ih =
            let here = eqb-true x.at k h in
            let within = slice_get_within history x.at (n, x.call) (e.0.held m) in absurd (omega (arith, past))

  -- what is said of all lists of calls from a place on
  abbrev MergesFrom : History → Type 0
  MergesFrom rest =
      (k : ℕ) (d : Doc) → IsAt doc history k d rest → (mine : List Placed) → Each (IsPlaced doc history moved n) mine → GoOn (λ x. x.at) moved k mine
      → IsMerged moved n mine k d rest

  module _ (item : ℕ × Call) (rest : History) (next : MergesFrom rest) (k : ℕ) (d : Doc) (p : IsAt doc history k d (item ∷ rest)) where
    from-there : (mine : List Placed) → Each (IsPlaced doc history moved n) mine → GoOn (λ x. x.at) moved (suc k) mine → IsMerged moved n mine (suc k) (apply d item.1).doc rest
    from-there mine e g = next (suc k) (apply d item.1).doc (next-place doc history k d item rest p) mine e g

    behind : (x : Placed) (xs : List Placed) → x.at ≡ k → moved x ≡ true → GoOn (λ x. x.at) moved k (x ∷ xs) → GoOn (λ x. x.at) moved (suc k) xs
    behind x xs e m g =
        let one = cond-true (moved x) (x.at + 1) x.at m in
        go-on-before moved (cond (moved x) (x.at + 1) x.at) (suc k) xs (omega arith) g.1

    at-change : (mine : List Placed) → Each (IsPlaced doc history moved n) mine → GoOn (λ x. x.at) moved k mine → IsMerged moved n mine k d (item ∷ rest)
    at-change [] e g = later [] k d item rest tt (from-there [] tt tt)
    at-change (x ∷ xs) e g = at (x.at == k) refl (moved x) refl (at-change xs e.1 (go-on-before moved x.at k xs g.0 (go-on-behind moved k x xs g)))
      where
        at : (b : Bool) → (x.at == k) ≡ b → (c : Bool) → moved x ≡ c → IsMerged moved n xs k d (item ∷ rest) → IsMerged moved n (x ∷ xs) k d (item ∷ rest)
        at false h c m ih =
            let not_here = eqb-false x.at k h in
            let from : suc k ≤ x.at = omega (arith, g.0) in
            later (x ∷ xs) k d item rest (from, g.1) (from-there (x ∷ xs) e (from, g.1))
        at true h false m ih = stays x xs k d (item ∷ rest) (eqb-true x.at k h) m ih
        at true h true m ih =
            let here = eqb-true x.at k h in
            let g' = behind x xs here m g in
            moves-there x xs k d item rest p here m e.0 g' (from-there xs e.1 g')

  merges : (rest : History) → MergesFrom rest
  merges [] = at-end
  merges (item ∷ rest) = at-change item rest (merges rest)

module _ (doc : Doc) (history : History) (n : ℕ) (mine : List Placed) (s : Stands doc history n mine) where
  each-placed : Each (IsPlaced doc history (moves doc history) n) mine
  each-placed =
      recursion_from_All (IsPlaced doc history (moves doc history) n) mine
      (λ k d lt. record { within = s.within k d lt; reply = s.replies k d lt; held = s.held k d lt })

  pub own-order : merged (moves doc history) n mine 0 doc history ≡ map (ran_by n) mine
  own-order =
      let as_many = ap (λ (cs : List Call). length cs) s.changes in
      (merges doc history (moves doc history) n history 0 doc (first-place doc history) mine each-placed s.order).whole (omega arith)
