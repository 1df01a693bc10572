-- The documents of a host that is closed, one after another.
use Rattle.std.proofs.Common.{◌≡◌, ℕ, zero, suc, ◌+◌, ◌-◌, ◌<◌, ◌≤◌, List, [], ◌∷◌, ◌++◌, length, slice_get, get_or, take, drop, map, refl, sym, ap, ◌∙◌, subst, arith, add-one, length-append, length-drop}
use Rattle.std.specs.Prelude.{Option, Some}
use Rattle.std.specs.List.{remove}
use mathlib.Core.List.{IsPrefix}
use Rattle.std.proofs.lemmas.List.{length-map}
use Rattle.turn_board.specs.declared.board.Board.{Board}
use Rattle.turn_board.specs.declared.seat.SeatOf.{SeatOf}
use Rattle.turn_board.specs.declared.view.Ended.{Ended}
use Rattle.turn_board.specs.Rule.{parts_of, parts_in}
use Rattle.turn_board.specs.Seats.{view, IsWhole, IsClosed}
use Rattle.turn_board.proofs.Fronts.{prefix_self}
use Rattle.doc_model.specs.declared.call.Call.{Call}
use Rattle.doc_model.specs.declared.made.Made.{Made}
use Rattle.doc_model.specs.rules.Histories.{History, EachMoves, Tried}
use Rattle.doc_host.specs.declared.journaled.Opening.{Opening}
use Rattle.doc_host.specs.Attempts.{attempts}
use Rattle.doc_host.specs.Seats.{Known, Knows}
use Rattle.doc_host.specs.Passes.{Each2, numbers_of, AllKnow, AreAlike, whole_in, HasClosed}
use Rattle.doc_host.specs.Views.{IsFreeSeat}
use Rattle.doc_host.proofs.Lists.{drop_next, take_next, take_whole}
use Rattle.doc_host.proofs.Pairs.{each2_push}

parts_known : (v : Known) → Knows v → parts_of v ≡ length (numbers_of v).4 + ((numbers_of v).3 - (numbers_of v).2) + 1
parts_known v k =
    ap (λ (r : Option Opening). parts_in r (length v.ended + (v.end - v.next))) k.rooted
    ∙ ap (λ (n : ℕ). n + (v.end - v.next) + 1) (sym (length-map v.ended (λ (e : Ended Call Made). e.number)))

pub whole_each : (vs : List Known) → AreAlike vs → AllKnow vs → whole_in vs → (i : ℕ) (v : Known) → slice_get vs i ≡ Some v → IsWhole v
whole_each [] alike knows whole i v e = absurd whole
whole_each (u ∷ us) alike knows whole i v e =
    let same : numbers_of u ≡ numbers_of v = alike 0 i u v refl e in
    parts_known v (knows i v e) ∙ ap (λ (n : ℕ × ℕ × ℕ × ℕ × List ℕ). length n.4 + (n.3 - n.2) + 1) (sym same) ∙ sym (parts_known u (knows 0 u refl)) ∙ whole ∙ ap (λ (n : ℕ × ℕ × ℕ × ℕ × List ℕ). n.0) same

some_is : {A : Type 0} (x y : A) → Some x ≡ Some y → x ≡ y
some_is x y e = cc

pub closed_one : {S : Type 0} (story : S → History) (tally : S → ℕ) (root : S → Opening) (v : Known) (y : S) → Knows v → EachMoves (root y).doc (story y) → IsClosed story tally root (λ (m : Made). m.after) v y → HasClosed (root y) (story y) (tally y) v
closed_one story tally root v y k moves h =
    let o : k.opening ≡ root y = some_is k.opening (root y) (sym k.rooted ∙ h.rooted) in
    let pre : IsPrefix v.seen (story y) = subst (λ (l : History). IsPrefix v.seen l) (sym h.seen) (prefix_self v.seen) in
    record {
      rooted = h.rooted;
      seen = h.seen;
      moves = moves;
      floor = h.floor;
      tried = subst (λ (p : Opening). Tried p.doc p.bodies (story y) v.number (attempts v.made)) o (k.own (story y) pre h.own);
      own = h.own;
      marks = h.marks;
      ended = λ i e at. let x = h.ended i e at in (subst (λ (p : Opening). Tried p.doc p.bodies (story y) e.number (attempts e.made)) o (k.ended i e at (story y) pre x.0), x.0, x.1);
      others = h.others;
      not_own = h.not_own;
      apart = h.apart;
    }

module _ {J S : Type 0} (closed : Known → J → Type 0) where
  pub record Closing (vs : List Known) (boards : List (Board S Call Made Opening)) (chairs : List (SeatOf S Call Made Opening)) (docs : List J) : Type 0 where
    pub free : Each2 IsFreeSeat boards chairs
    pub views : map view chairs ≡ drop (length docs) vs
    pub done : Each2 closed (take (length docs) vs) docs

  pub closing_none : (boards : List (Board S Call Made Opening)) (chairs : List (SeatOf S Call Made Opening)) (docs : List J) → Each2 IsFreeSeat boards chairs → length docs ≤ 0 → Closing (map view chairs) boards chairs docs
  closing_none boards chairs [] e le = record { free = e; views = refl; done = tt }
  closing_none boards chairs (d ∷ ds) e le = absurd (omega arith)

  -- the first of those that are left
  pub closing_front : (vs : List Known) (boards : List (Board S Call Made Opening)) (chairs : List (SeatOf S Call Made Opening)) (docs : List J) → Closing vs boards chairs docs → 0 < length boards
      → (b : Board S Call Made Opening) (s : SeatOf S Call Made Opening) → b ≡ get_or boards 0 b → s ≡ get_or chairs 0 s → IsFreeSeat b s × (slice_get vs (length docs) ≡ Some (view s))
  closing_front vs [] chairs docs h lt b s e d = absurd (omega arith)
  closing_front vs (x ∷ xs) [] docs h lt b s e d = absurd h.free
  closing_front vs (x ∷ xs) (y ∷ ys) docs h lt b s e d =
      (subst (λ z. IsFreeSeat z s) (sym e) (subst (λ z. IsFreeSeat x z) (sym d) h.free.0), (drop_next (length docs) vs (view y) (map view ys) (sym h.views)).0 ∙ ap (λ z. Some (view z)) (sym d))

  pub closing_some : (vs : List Known) (boards : List (Board S Call Made Opening)) (chairs : List (SeatOf S Call Made Opening)) (docs : List J) → Closing vs boards chairs docs → 0 < length boards → 0 < length chairs
  closing_some vs [] chairs docs h lt = absurd (omega arith)
  closing_some vs (x ∷ xs) [] docs h lt = absurd h.free
  closing_some vs (x ∷ xs) (y ∷ ys) docs h lt = omega arith

  pub closing_next : (vs : List Known) (boards : List (Board S Call Made Opening)) (chairs : List (SeatOf S Call Made Opening)) (docs : List J) → Closing vs boards chairs docs → 0 < length boards
      → (s : SeatOf S Call Made Opening) → s ≡ get_or chairs 0 s → (d : J) → closed (view s) d → Closing vs (remove boards 0) (remove chairs 0) (docs ++ d ∷ [])
  closing_next vs [] chairs docs h lt s e d c = absurd (omega arith)
  closing_next vs (x ∷ xs) [] docs h lt s e d c = absurd h.free
  closing_next vs (x ∷ xs) (y ∷ ys) docs h lt s e d c =
      let n : length (docs ++ d ∷ []) ≡ suc (length docs) = length-append docs (d ∷ []) ∙ add-one (length docs) in
      let at = drop_next (length docs) vs (view y) (map view ys) (sym h.views) in
      record {
        free = h.free.1;
        views = sym at.1 ∙ ap (λ m. drop m vs) (sym n);
        done = subst (λ l. Each2 closed l (docs ++ d ∷ [])) (take_next (length docs) vs (view y) at.0 ∙ ap (λ m. take m vs) (sym n))
            (each2_push closed (take (length docs) vs) docs (view y) d h.done (subst (λ z. closed (view z) d) e c));
      }

  pub closing_done : (vs : List Known) (boards : List (Board S Call Made Opening)) (chairs : List (SeatOf S Call Made Opening)) (docs : List J) → Closing vs boards chairs docs → length boards ≡ 0 → Each2 closed vs docs
  closing_done vs [] [] docs h e = subst (λ l. Each2 closed l docs) (take_whole (length docs) vs (let d = length-drop (length docs) vs in let f : length (drop (length docs) vs) ≡ 0 = ap length (sym h.views) in omega arith)) h.done
  closing_done vs [] (y ∷ ys) docs h e = absurd h.free
  closing_done vs (x ∷ xs) chairs docs h e = absurd (omega (arith, e))
