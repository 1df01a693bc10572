-- A history grows at its end. The calls of a caller that stand in it stand in the longer one, with one more call at the end
-- too.
use Rattle.std.proofs.Common.{◌≡◌, ℕ, suc, zero, ◌≤◌, ◌+◌, ◌==◌, refl, sym, ◌∙◌, ap, subst, arith, Bool, true, false, cond, eq-eqb, List, [], ◌∷◌, ◌++◌, length, map, filter, get_or, Some, length-append}
use Rattle.std.specs.List.{All, AllByRecursion as Each, slice_get}
use Rattle.std.proofs.lemmas.List.{take-append-le, take_all, map-append, append-nil}
use Rattle.std.proofs.lemmas.List.Elements.{All-push, All-nil, filter-append, recursion_from_All}
use Rattle.std.proofs.lemmas.Option.{slice_get_within}
use Rattle.doc_model.specs.declared.call.Call.{Call}
use Rattle.doc_model.specs.declared.doc.Doc.{Doc}
use Rattle.doc_model.specs.declared.reply.Submitted.TheVariants.{Answered}
use Rattle.doc_model.specs.rules.Apply.{apply, replay}
use Rattle.doc_model.specs.rules.Histories.{History, Placed, GoOn, Stands, calls_by, moved_calls, moves, effect_at}
use Rattle.doc_model.specs.laws.Histories.{gained, StandsNowhere, StandsLater, StandsWithNext}
use Rattle.doc_model.specs.rules.Effects.{Effect}

pub stands-nowhere : StandsNowhere
stands-nowhere doc history n e = record {
  within = All-nil (λ x. x.at ≤ length history);
  replies = All-nil (λ x. x.reply ≡ (effect_at doc history x.at x.call).reply);
  held = All-nil (λ x. moves doc history x ≡ true → slice_get history x.at ≡ Some (n, x.call));
  order = tt;
  changes = sym e;
}

-- what stands at a place stands there in a longer list, and behind the end the first of the rest
slice_get-longer : {X : Type 0} (xs ys : List X) (k : ℕ) (x : X) → slice_get xs k ≡ Some x → slice_get (xs ++ ys) k ≡ Some x
slice_get-longer [] ys zero x e = cc
slice_get-longer [] ys (suc k) x e = cc
slice_get-longer (y ∷ xs) ys zero x e = cc
slice_get-longer (y ∷ xs) ys (suc k) x e = slice_get-longer xs ys k x e

slice_get-end : {X : Type 0} (xs : List X) (x : X) → slice_get (xs ++ x ∷ []) (length xs) ≡ Some x
slice_get-end [] x = refl
slice_get-end (y ∷ xs) x = slice_get-end xs x

-- up to its end a history's calls do the same in a longer one
pub effect-longer : (doc : Doc) (history more : History) (at : ℕ) (call : Call) → at ≤ length history → effect_at doc (history ++ more) at call ≡ effect_at doc history at call
effect-longer doc history more at call le = ap (λ (xs : History). apply (replay doc xs) call) (take-append-le at history more le)

pub effect-end : (doc : Doc) (history more : History) (at : ℕ) (call : Call) → at ≡ length history → effect_at doc (history ++ more) at call ≡ apply (replay doc history) call
effect-end doc history more at call e =
    effect-longer doc history more at call (omega (arith, e)) ∙ ap (λ (xs : History). apply (replay doc xs) call) (take_all at history (omega (arith, e)))

calls_by-append : (n : ℕ) (xs ys : History) → calls_by n (xs ++ ys) ≡ calls_by n xs ++ calls_by n ys
calls_by-append n xs ys =
    ap (λ (zs : History). map (λ z. z.1) zs) (filter-append (λ z. z.0 == n) xs ys)
    ∙ map-append (λ (z : ℕ × Call). z.1) (filter (λ z. z.0 == n) xs) (filter (λ z. z.0 == n) ys)

moved_calls-append : (moved : Placed → Bool) (xs ys : List Placed) → moved_calls moved (xs ++ ys) ≡ moved_calls moved xs ++ moved_calls moved ys
moved_calls-append moved xs ys =
    ap (λ (zs : List Placed). map (λ z. z.call) zs) (filter-append moved xs ys)
    ∙ map-append (λ (z : Placed). z.call) (filter moved xs) (filter moved ys)

-- where two say the same of each call
pub same-order : {X : Type 0} (at : X → ℕ) (moved moved' : X → Bool) (from : ℕ) (mine : List X) → Each (λ x. moved' x ≡ moved x) mine → GoOn at moved from mine
    → GoOn at moved' from mine
same-order at moved moved' from [] e g = tt
same-order at moved moved' from (x ∷ xs) e g =
    (g.0, subst (λ (b : Bool). GoOn at moved' (cond b (at x + 1) (at x)) xs) (sym e.0) (same-order at moved moved' (cond (moved x) (at x + 1) (at x)) xs e.1 g.1))

module _ (moved moved' : Placed → Bool) where
  same-moved : (mine : List Placed) → Each (λ x. moved' x ≡ moved x) mine → moved_calls moved' mine ≡ moved_calls moved mine
  same-moved [] e = refl
  same-moved (x ∷ xs) e = at (moved' x) (moved x) e.0 (same-moved xs e.1)
    where
      at : (b c : Bool) → b ≡ c → moved_calls moved' xs ≡ moved_calls moved xs
          → map (λ y. y.call) (cond b (x ∷ filter moved' xs) (filter moved' xs)) ≡ map (λ y. y.call) (cond c (x ∷ filter moved xs) (filter moved xs))
      at true true e ih = ap (λ (cs : List Call). x.call ∷ cs) ih
      at true false e ih = cc
      at false true e ih = cc
      at false false e ih = ih

-- one more call goes on from calls that end before it
pub next-order : {X : Type 0} (at : X → ℕ) (moved : X → Bool) (from : ℕ) (mine : List X) (x : X) → Each (λ y. cond (moved y) (at y + 1) (at y) ≤ at x) mine → from ≤ at x
    → GoOn at moved from mine → GoOn at moved from (mine ++ x ∷ [])
next-order at moved from [] x e le g = (le, tt)
next-order at moved from (y ∷ ys) x e le g = (g.0, next-order at moved (cond (moved y) (at y + 1) (at y)) ys x e.1 e.0 g.1)

-- all that calls which stand in a history are in a longer one, but for the changes
pub record AreIn (doc : Doc) (history more : History) (n : ℕ) (mine : List Placed) : Type 0 where
  pub within : All (λ x. x.at ≤ length (history ++ more)) mine
  pub replies : All (λ x. x.reply ≡ (effect_at doc (history ++ more) x.at x.call).reply) mine
  pub held : All (λ x. moves doc (history ++ more) x ≡ true → slice_get (history ++ more) x.at ≡ Some (n, x.call)) mine
  pub order : GoOn (λ x. x.at) (moves doc (history ++ more)) 0 mine
  pub changes : moved_calls (moves doc (history ++ more)) mine ≡ calls_by n history
  pub before_end : Each (λ x. cond (moves doc (history ++ more) x) (x.at + 1) x.at ≤ length history) mine

module _ (doc : Doc) (history more : History) (n : ℕ) (mine : List Placed) (s : Stands doc history n mine) where
  pub same-effects : All (λ x. effect_at doc (history ++ more) x.at x.call ≡ effect_at doc history x.at x.call) mine
  same-effects k d lt = let x = get_or mine k d in effect-longer doc history more x.at x.call (s.within k d lt)

  same-moves : Each (λ x. moves doc (history ++ more) x ≡ moves doc history x) mine
  same-moves =
      recursion_from_All (λ x. moves doc (history ++ more) x ≡ moves doc history x) mine
      (λ k d lt. ap (λ (t : Effect). t.moved) (same-effects k d lt))

  ends : (x : Placed) (b : Bool) → moves doc (history ++ more) x ≡ b → moves doc (history ++ more) x ≡ moves doc history x → x.at ≤ length history
      → (moves doc history x ≡ true → slice_get history x.at ≡ Some (n, x.call)) → cond b (x.at + 1) x.at ≤ length history
  ends x true m e le h = let lt = slice_get_within history x.at (n, x.call) (h (sym e ∙ m)) in omega arith
  ends x false m e le h = le

  pub are-in : AreIn doc history more n mine
  are-in = record {
    within = λ k d lt. let le = s.within k d lt in let more_long = length-append history more in omega arith;
    replies = λ k d lt. s.replies k d lt ∙ sym (ap (λ (t : Effect). t.reply) (same-effects k d lt));
    held = λ k d lt m.
        let x = get_or mine k d in
        slice_get-longer history more x.at (n, x.call) (s.held k d lt (sym (ap (λ (t : Effect). t.moved) (same-effects k d lt)) ∙ m));
    order = same-order (λ x. x.at) (moves doc history) (moves doc (history ++ more)) 0 mine same-moves s.order;
    changes = same-moved (moves doc history) (moves doc (history ++ more)) mine same-moves ∙ s.changes;
    before_end = recursion_from_All (λ x. cond (moves doc (history ++ more) x) (x.at + 1) x.at ≤ length history) mine
        (λ k d lt. let x = get_or mine k d in ends x (moves doc (history ++ more) x) refl (ap (λ (t : Effect). t.moved) (same-effects k d lt)) (s.within k d lt) (s.held k d lt));
  }

pub stands-later : StandsLater
stands-later doc history more n mine s e =
    let there = are-in doc history more n mine s in record {
      within = there.within;
      replies = there.replies;
      held = there.held;
      order = there.order;
      changes = there.changes ∙ sym (calls_by-append n history more ∙ ap (λ (cs : List Call). calls_by n history ++ cs) e ∙ append-nil (calls_by n history));
    }

module _ (doc : Doc) (history : History) (n : ℕ) (x : Placed) (here : x.at ≡ length history) where
  abbrev effect : Effect
  effect = apply (replay doc history) x.call

  abbrev more : History
  more = gained n x.call (Answered x.reply) effect.moved

  effect-there : effect_at doc (history ++ more) x.at x.call ≡ effect
  effect-there = effect-end doc history more x.at x.call here

  -- where it moves, it stands at the end
  held-there : (b : Bool) → b ≡ true → slice_get (history ++ gained n x.call (Answered x.reply) b) x.at ≡ Some (n, x.call)
  held-there true e = ap (λ (k : ℕ). slice_get (history ++ (n, x.call) ∷ []) k) here ∙ slice_get-end history (n, x.call)
  held-there false e = cc

  -- and then it is the one change that the history gained
  gained-one : (moved : Placed → Bool) (b : Bool) → moved x ≡ b → moved_calls moved (x ∷ []) ≡ calls_by n (gained n x.call (Answered x.reply) b)
  gained-one moved true e =
      ap (λ (c : Bool). map (λ (y : Placed). y.call) (cond c (x ∷ []) [])) e
      ∙ sym (ap (λ (c : Bool). map (λ (y : ℕ × Call). y.1) (cond c ((n, x.call) ∷ []) [])) (eq-eqb n n refl))
  gained-one moved false e = ap (λ (c : Bool). map (λ (y : Placed). y.call) (cond c (x ∷ []) [])) e

  next : (mine : List Placed) → AreIn doc history more n mine → x.reply ≡ effect.reply → Stands doc (history ++ more) n (mine ++ x ∷ [])
  next mine there r = record {
    within = All-push (λ y. y.at ≤ length (history ++ more)) mine x there.within (let long = length-append history more in omega (arith, here));
    replies = All-push (λ y. y.reply ≡ (effect_at doc (history ++ more) y.at y.call).reply) mine x there.replies (r ∙ sym (ap (λ (t : Effect). t.reply) effect-there));
    held = All-push (λ y. moves doc (history ++ more) y ≡ true → slice_get (history ++ more) y.at ≡ Some (n, y.call)) mine x there.held
        (λ m. held-there effect.moved (sym (ap (λ (t : Effect). t.moved) effect-there) ∙ m));
    order = next-order (λ x. x.at) (moves doc (history ++ more)) 0 mine x
        (subst (λ (k : ℕ). Each (λ y. cond (moves doc (history ++ more) y) (y.at + 1) y.at ≤ k) mine) (sym here) there.before_end) (omega arith) there.order;
    changes = moved_calls-append (moves doc (history ++ more)) mine (x ∷ [])
        ∙ ap (λ (cs : List Call). cs ++ moved_calls (moves doc (history ++ more)) (x ∷ [])) there.changes
        ∙ ap (λ (cs : List Call). calls_by n history ++ cs) (gained-one (moves doc (history ++ more)) effect.moved (ap (λ (t : Effect). t.moved) effect-there))
        ∙ sym (calls_by-append n history more);
  }

pub stands-with-next : StandsWithNext
stands-with-next doc history n mine x s here r =
    next doc history n x here mine (are-in doc history (more doc history n x here) n mine s) r
