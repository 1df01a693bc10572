-- The calls of all callers of a history are one thread's run.
use Rattle.std.proofs.Common.{◌≡◌, ℕ, suc, ◌==◌, refl, sym, ◌∙◌, ap, subst, Bool, true, false, not, eqb-true, List, [], ◌∷◌, ◌++◌, map, get_or, take}
use Rattle.std.specs.List.{AllByRecursion as Each, All, Any}
use Rattle.std.proofs.lemmas.Bool.{cond-true, cond-false, and_parts, not-true}
use Rattle.std.proofs.lemmas.List.{get_or_default}
use Rattle.std.proofs.lemmas.List.Elements.{All-from_recursion, recursion_from_All}
use Rattle.doc_model.specs.declared.call.Call.{Call}
use Rattle.doc_model.specs.declared.doc.Doc.{Doc}
use Rattle.doc_model.specs.rules.Apply.{apply, replay}
use Rattle.doc_model.specs.rules.Histories.{History, EachMoves, Placed, Stands, moves, effect_at}
use Rattle.doc_model.specs.laws.Histories.{Ran, Runs, AreAt, AreCallers, OneThread, calls_of, changes_of, ran_by}
use Rattle.doc_model.proofs.EachItem.{each-append, each-as, each-both, each-filter, each-flat-map, each-mapped, each-passes}
use Rattle.doc_model.proofs.Merging.{changed, still, is_still}
use Rattle.doc_model.proofs.OwnOrder.{own-order}
use Rattle.doc_model.proofs.Places.{IsAt, first-place, next-place}
use Rattle.doc_model.proofs.Threads.{under, still_of, all_still, run_from, own-under, run-merged}
use Rattle.doc_model.proofs.Unmoved.{unmoved}

-- a call that is answered on this document and doesn't move there
record IsRead (k : ℕ) (d : Doc) (x : Ran) : Type 0 where
  at : x.at ≡ k
  reply : x.reply ≡ (apply d x.call).reply
  still : (apply d x.call).moved ≡ false

-- such calls before others
module _ (k : ℕ) (d : Doc) (ys : List Ran) where
  reads-places : (xs : List Ran) → Each (IsRead k d) xs → AreAt d k ys → AreAt d k (xs ++ ys)
  reads-places [] h r = r
  reads-places (x ∷ xs) h r = (
    h.0.at,
    subst (λ (j : ℕ). AreAt (apply d x.call).doc j (xs ++ ys)) (sym (cond-false (apply d x.call).moved _ _ h.0.still))
        (subst (λ (e : Doc). AreAt e k (xs ++ ys)) (sym (unmoved d x.call h.0.still)) (reads-places xs h.1 r)),
  )

  reads-run : (xs : List Ran) → Each (IsRead k d) xs → Runs d ys → Runs d (xs ++ ys)
  reads-run [] h r = r
  reads-run (x ∷ xs) h r = (h.0.reply, subst (λ (e : Doc). Runs e (xs ++ ys)) (sym (unmoved d x.call h.0.still)) (reads-run xs h.1 r))

  reads-change : (xs : List Ran) → Each (IsRead k d) xs → changes_of d (calls_of (xs ++ ys)) ≡ changes_of d (calls_of ys)
  reads-change [] h = refl
  reads-change (x ∷ xs) h =
      cond-false (apply d x.call).moved _ _ h.0.still ∙ ap (λ (e : Doc). changes_of e (calls_of (xs ++ ys))) (unmoved d x.call h.0.still) ∙ reads-change xs h.1

  reads-lead : (xs : List Ran) → Each (IsRead k d) xs → replay d (calls_of (xs ++ ys)) ≡ replay d (calls_of ys)
  reads-lead [] h = refl
  reads-lead (x ∷ xs) h = ap (λ (e : Doc). replay e (calls_of (xs ++ ys))) (unmoved d x.call h.0.still) ∙ reads-lead xs h.1

-- a run whose changes are these
record RunsAs (k : ℕ) (d : Doc) (rest : History) (run : List Ran) : Type 0 where
  places : AreAt d k run
  replies : Runs d run
  changes : changes_of d (calls_of run) ≡ rest
  leads_to : replay d (calls_of run) ≡ replay d rest

-- at the end, and at a change
module _ (k : ℕ) (d : Doc) (xs : List Ran) (reads : Each (IsRead k d) xs) where
  runs-end : RunsAs k d [] (xs ++ [])
  runs-end = record { places = reads-places k d [] xs reads tt; replies = reads-run k d [] xs reads tt; changes = reads-change k d [] xs reads; leads_to = reads-lead k d [] xs reads }

  runs-change : (item : ℕ × Call) (rest : History) (run : List Ran) → (apply d item.1).moved ≡ true → RunsAs (suc k) (apply d item.1).doc rest run
      → RunsAs k d (item ∷ rest) (xs ++ changed k d item ∷ run)
  runs-change item rest run m r = record {
    places = reads-places k d (changed k d item ∷ run) xs reads (refl, subst (λ (j : ℕ). AreAt (apply d item.1).doc j run) (sym (cond-true (apply d item.1).moved _ _ m)) r.places);
    replies = reads-run k d (changed k d item ∷ run) xs reads (refl, r.replies);
    changes = reads-change k d (changed k d item ∷ run) xs reads ∙ cond-true (apply d item.1).moved _ _ m ∙ ap (λ (cs : History). item ∷ cs) r.changes;
    leads_to = reads-lead k d (changed k d item ∷ run) xs reads ∙ r.leads_to;
  }

module _ (doc : Doc) (history : History) where
  abbrev here : ℕ → Doc
  here k = replay doc (take k history)

  -- of a caller's calls those that stand at a place and don't move are read there
  read-there : (k : ℕ) (n : ℕ) (x : Placed) → x.reply ≡ (effect_at doc history x.at x.call).reply → is_still (moves doc history) k x ≡ true → IsRead k (here k) (ran_by n x)
  read-there k n x r e =
      let parts = and_parts (x.at == k) (not (moves doc history x)) e in
      let at = eqb-true x.at k parts.0 in record {
        at = at;
        reply = r ∙ ap (λ (j : ℕ). (effect_at doc history j x.call).reply) at;
        still = sym (ap (λ (j : ℕ). (effect_at doc history j x.call).moved) at) ∙ not-true (moves doc history x) parts.1;
      }

  each-read : (k n : ℕ) (mine : List Placed) → Stands doc history n mine → Each (IsRead k (here k)) (map (ran_by n) (still (moves doc history) k mine))
  each-read k n mine s =
      let replied : Placed → Type 0 = λ x. x.reply ≡ (effect_at doc history x.at x.call).reply in
      let passes : Placed → Type 0 = λ x. is_still (moves doc history) k x ≡ true in
      let there = still (moves doc history) k mine in
      each-mapped (IsRead k (here k)) (ran_by n) there
      (each-as (λ x. replied x × passes x) (λ x. IsRead k (here k) (ran_by n x)) there (λ x h. read-there k n x h.0 h.1)
      (each-both replied passes there (each-filter replied (is_still (moves doc history) k) mine (recursion_from_All replied mine s.replies)) (each-passes (is_still (moves doc history) k) mine)))

  module _ (callers : List (ℕ × List Placed)) (stand : All (λ c. Stands doc history c.0 c.1) callers) where
    all-read : (k : ℕ) → Each (IsRead k (here k)) (all_still (moves doc history) k callers)
    all-read k =
        each-flat-map (IsRead k (here k)) (still_of (moves doc history) k) callers
        (each-as (λ c. Stands doc history c.0 c.1) (λ c. Each (IsRead k (here k)) (still_of (moves doc history) k c)) callers (λ c s. each-read k c.0 c.1 s)
        (recursion_from_All (λ c. Stands doc history c.0 c.1) callers stand))

    runs-from : (k : ℕ) (d : Doc) (rest : History) → IsAt doc history k d rest → EachMoves d rest → RunsAs k d rest (run_from (moves doc history) callers k d rest)
    runs-from k d [] p h = runs-end k d (all_still (moves doc history) k callers) (subst (λ (e : Doc). Each (IsRead k e) (all_still (moves doc history) k callers)) (sym p.there) (all-read k))
    runs-from k d (item ∷ rest) p h =
        runs-change k d (all_still (moves doc history) k callers) (subst (λ (e : Doc). Each (IsRead k e) (all_still (moves doc history) k callers)) (sym p.there) (all-read k))
        item rest (run_from (moves doc history) callers (suc k) (apply d item.1).doc rest) h.0
        (runs-from (suc k) (apply d item.1).doc rest (next-place doc history k d item rest p) h.1)

-- every call of a run is one of the callers'
module _ (callers : List (ℕ × List Placed)) where
  abbrev IsOwned : ℕ → Type 0
  IsOwned n = Any (λ c. c.0 ≡ n) callers

  each-caller : Each (λ c. IsOwned c.0) callers
  each-caller = recursion_from_All (λ c. IsOwned c.0) callers (λ k d lt. (k, get_or callers k d, lt, get_or_default callers k (get_or callers k d) d lt, refl))

  owned-calls : (n : ℕ) (mine : List Placed) → IsOwned n → Each (λ x. IsOwned x.number) (map (ran_by n) mine)
  owned-calls n [] h = tt
  owned-calls n (x ∷ xs) h = (h, owned-calls n xs h)

  module _ (moved : Placed → Bool) where
    owned-still : (k : ℕ) → Each (λ x. IsOwned x.number) (all_still moved k callers)
    owned-still k =
        each-flat-map (λ x. IsOwned x.number) (still_of moved k) callers
        (each-as (λ c. IsOwned c.0) (λ c. Each (λ x. IsOwned x.number) (still_of moved k c)) callers (λ c h. owned-calls c.0 (still moved k c.1) h) each-caller)

    owned-run : (k : ℕ) (d : Doc) (rest : History) → Each (λ item. IsOwned item.0) rest → Each (λ x. IsOwned x.number) (run_from moved callers k d rest)
    owned-run k d [] h = each-append (λ x. IsOwned x.number) (all_still moved k callers) [] (owned-still k) tt
    owned-run k d (item ∷ rest) h =
        each-append (λ x. IsOwned x.number) (all_still moved k callers) (changed k d item ∷ run_from moved callers (suc k) (apply d item.1).doc rest)
        (owned-still k) (h.0, owned-run (suc k) (apply d item.1).doc rest h.1)

module _ (doc : Doc) (history : History) (callers : List (ℕ × List Placed)) (are : AreCallers doc history callers) where
  abbrev run : List Ran
  run = run_from (moves doc history) callers 0 doc history

  each-order : All (λ c. under c.0 run ≡ map (ran_by c.0) c.1) callers
  each-order i d lt =
      let c = get_or callers i d in
      run-merged (moves doc history) callers c
      (λ k. All-from_recursion (λ x. under x.0 (all_still (moves doc history) k callers) ≡ still_of (moves doc history) k x) callers (own-under (moves doc history) k callers are.distinct) i d lt)
      0 doc history
      ∙ own-order doc history c.0 c.1 (are.stand i d lt)

pub one-thread : OneThread
one-thread doc history callers moving are =
    let runs = runs-from doc history callers are.stand 0 doc history (first-place doc history) moving in (
      run doc history callers are,
      record {
        places = runs.places;
        replies = runs.replies;
        changes = runs.changes;
        leads_to = runs.leads_to;
        orders = each-order doc history callers are;
        owned = All-from_recursion (λ x. IsOwned callers x.number) (run doc history callers are)
            (owned-run callers (moves doc history) 0 doc history (recursion_from_All (λ item. IsOwned callers item.0) history are.whole));
      },
    )
