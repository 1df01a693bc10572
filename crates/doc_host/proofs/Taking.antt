-- The pass into which another was joined.
use Rattle.std.proofs.Common.{◌≡◌, ℕ, zero, suc, ◌+◌, ◌<◌, ◌≤◌, List, [], ◌∷◌, ◌++◌, length, slice_get, get_or, set, take, drop, map, refl, sym, ap, ◌∙◌, subst, arith, add-one, ⊎_elim, inl, inr}
use Rattle.std.specs.Prelude.{Option, Some, ◌⊎◌}
use Rattle.std.specs.List.{remove}
use Rattle.std.proofs.lemmas.Option.{slice_get_read, slice_get_within}
use Rattle.std.proofs.lemmas.List.{length-set, length-map}
use Rattle.std.proofs.Common.{length-drop}
use mathlib.Core.Logic.{dite}
use native.Mathlib.Decide.{ℕ_discrete}
use Rattle.turn_board.specs.declared.board.Board.{Board}
use Rattle.turn_board.specs.declared.seat.SeatOf.{SeatOf}
use Rattle.turn_board.specs.Rule.{both_of}
use Rattle.turn_board.specs.Seats.{view, me_of, IsSeatOf, IsIdle, IsSameSeat}
use Rattle.doc_model.specs.declared.call.Call.{Call}
use Rattle.doc_model.specs.declared.made.Made.{Made}
use Rattle.doc_host.specs.declared.journaled.Journaled.{Ghosts}
use Rattle.doc_host.specs.declared.journaled.Opening.{Opening}
use Rattle.doc_host.specs.declared.host.Host.{Host}
use Rattle.doc_host.specs.declared.pass.Pass.{Pass}
use Rattle.doc_host.specs.declared.shared.Shared.{Shared}
use Rattle.doc_host.specs.Seats.{Known}
use Rattle.doc_host.specs.Passes.{Each2, AllKnow, AreAlike, joined}
use Rattle.doc_host.specs.Views.{IsFreeSeat, IsPassOf, views}
use Rattle.doc_host.proofs.Lists.{one_there, map_get, map_set, drop_next, drop_front, take_whole}
use Rattle.doc_host.proofs.Pairs.{each2_at, each2_set, each2_length}
use Rattle.doc_host.proofs.Joining.{AreOneStory, joined_get, joined_next, joined_none, joined_roots, joined_knows, joined_alike}

module _ {S : Type 0} where
  -- so many seats were joined
  pub record Taking (boards : List (Board S Call Made Opening)) (vs ws : List Known) (n : ℕ) (now left : List (SeatOf S Call Made Opening)) : Type 0 where
    pub lengths : length now ≡ length boards
    pub own : Each2 IsFreeSeat boards now
    pub others : Each2 IsFreeSeat (drop n boards) left
    pub views : map view now ≡ joined vs (take n ws)
    pub left_views : map view left ≡ drop n ws
    pub stood : (k : ℕ) (v w : Known) → k < n → slice_get vs k ≡ Some v → slice_get ws k ≡ Some w → AreOneStory v w

  pub taking_none : (boards : List (Board S Call Made Opening)) (now left : List (SeatOf S Call Made Opening)) → length now ≡ length boards → Each2 IsFreeSeat boards now → Each2 IsFreeSeat boards left
      → Taking boards (map view now) (map view left) 0 now left
  taking_none boards now left l o e = record { lengths = l; own = o; others = e; views = sym (joined_none (map view now)); left_views = refl; stood = λ k v w lt a b. absurd (omega arith) }

  -- the first of the seats that are left
  pub left_front : (boards : List (Board S Call Made Opening)) (ws : List Known) (n : ℕ) (left : List (SeatOf S Call Made Opening)) → Each2 IsFreeSeat (drop n boards) left → map view left ≡ drop n ws → n < length boards
      → (f : SeatOf S Call Made Opening) → f ≡ get_or left 0 f
      → (b : Board S Call Made Opening) × (slice_get boards n ≡ Some b) × (IsFreeSeat b f) × (slice_get ws n ≡ Some (view f)) × (Each2 IsFreeSeat (drop (suc n) boards) (remove left 0)) × (map view (remove left 0) ≡ drop (suc n) ws) × (0 < length left)
  left_front boards ws n [] e v lt f is = let d = drop_front n boards lt in absurd (subst (λ l. Each2 IsFreeSeat l []) d.2 e)
  left_front boards ws n (x ∷ xs) e v lt f is =
      let d = drop_front n boards lt in
      let p = subst (λ l. Each2 IsFreeSeat l (x ∷ xs)) d.2 e in
      let q = drop_next n ws (view x) (map view xs) (sym v) in
      (d.0, d.1, subst (λ s. IsFreeSeat d.0 s) (sym is) p.0, q.0 ∙ ap (λ s. Some (view s)) (sym is), p.1, sym q.1, omega arith)

  module _ (boards : List (Board S Call Made Opening)) (vs ws : List Known) (n : ℕ) (now left : List (SeatOf S Call Made Opening)) (h : Taking boards vs ws n now left) (lt : n < length boards) (f : SeatOf S Call Made Opening) (is_f : f ≡ get_or left 0 f)
      (b : Board S Call Made Opening) (s : SeatOf S Call Made Opening) (is_b : b ≡ get_or boards n b) (is_s : s ≡ get_or now n s) where
    at_b : slice_get boards n ≡ Some b
    at_b = slice_get_read boards (length boards) n b refl lt is_b

    at_s : slice_get now n ≡ Some s
    at_s = slice_get_read now (length now) n s refl (let l = h.lengths in omega arith) is_s

    pub own_free : IsFreeSeat b s
    own_free = each2_at IsFreeSeat boards now n b s h.own at_b at_s

    pub other_free : IsFreeSeat b f
    other_free = let x = left_front boards ws n left h.others h.left_views lt f is_f in subst (λ (z : Board S Call Made Opening). IsFreeSeat z f) (one_there x.0 b (sym x.1 ∙ at_b)) x.2

    own_view : slice_get vs n ≡ Some (view s)
    own_view = sym (joined_get n vs ws) ∙ ap (λ l. slice_get l n) (sym h.views) ∙ map_get view now n s at_s

    pub taking_next : (t : SeatOf S Call Made Opening) → IsSameSeat s t → me_of t ≡ (both_of (view s) (view f), []) → AreOneStory (view s) (view f) → Taking boards vs ws (n + 1) (set now n t) (remove left 0)
    taking_next t same both one =
        let x = left_front boards ws n left h.others h.left_views lt f is_f in
        subst (λ m. Taking boards vs ws m (set now n t) (remove left 0)) (sym (add-one n)) (record {
          lengths = length-set now n t ∙ h.lengths;
          own = each2_set IsFreeSeat boards now n b t h.own at_b (same.0 ∙ own_free.0, (ap (λ m. m.0.hand) both ∙ own_free.1.0, ap (λ m. m.1) both));
          others = x.4;
          views = map_set view now n t ∙ ap (λ l. set l n (view t)) h.views ∙ ap (λ m. set (joined vs (take n ws)) n m.0) both ∙ joined_next n vs ws (view s) (view f) own_view x.3;
          left_views = x.5;
          stood = λ k v w below a c. dite (ℕ_discrete k n)
              (λ here.
              let a' : slice_get vs n ≡ Some v = subst (λ j. slice_get vs j ≡ Some v) here a in
              let c' : slice_get ws n ≡ Some w = subst (λ j. slice_get ws j ≡ Some w) here c in
              subst (λ (z : Known). AreOneStory z w) (one_there (view s) v (sym own_view ∙ a')) (subst (λ (z : Known). AreOneStory (view s) z) (one_there (view f) w (sym x.3 ∙ c')) one))
              (λ ne. h.stood k v w (omega arith) a c);
        })

pub map_like : {X Y : Type 0} (r : X → Y) (xs ys : List X) (k : ℕ) (x y : X) → map r xs ≡ map r ys → slice_get xs k ≡ Some x → slice_get ys k ≡ Some y → r x ≡ r y
map_like r xs ys k x y e a b = one_there (r x) (r y) (sym (map_get r xs k x a) ∙ ap (λ l. slice_get l k) e ∙ map_get r ys k y b)

module _ {J : Type 0} {g : Ghosts J} (host : Host J g) (pass from : Pass J g) (h : IsPassOf host pass) (m : IsPassOf host from) (n : ℕ) (now left : List (SeatOf (Shared J g) Call Made Opening)) (k : Taking host.boards.items (views pass) (views from) n now left) (done : n ≡ length host.boards.items) where
  same_length : length (views pass) ≡ length (views from)
  same_length = length-map pass.seats.items view ∙ h.lengths ∙ sym m.lengths ∙ sym (length-map from.seats.items view)

  whole_from : take n (views from) ≡ views from
  whole_from = take_whole n (views from) (let l = length-map from.seats.items view in let o = m.lengths in omega arith)

  pub joined_pass : (pass' : Pass J g) → pass'.seats.items ≡ now → IsPassOf host pass' × (views pass' ≡ joined (views pass) (views from))
  joined_pass pass' is =
      let v : views pass' ≡ joined (views pass) (views from) = ap (map view) is ∙ k.views ∙ ap (joined (views pass)) whole_from in
      let roots : map (λ (u : Known). u.root) (views pass) ≡ map (λ (u : Known). u.root) (views from) = h.rooted ∙ sym m.rooted in (
        record {
          lengths = ap length is ∙ k.lengths;
          seats = subst (Each2 IsFreeSeat host.boards.items) (sym is) k.own;
          rooted = ap (map (λ (w : Known). w.root)) v ∙ joined_roots (views pass) (views from) ∙ h.rooted;
          knows = subst AllKnow (sym v) (joined_knows (views pass) (views from) same_length h.knows m.knows
              (λ i u w a b. (map_like (λ (z : Known). z.root) (views pass) (views from) i u w roots a b, k.stood i u w (below i u a) a b)));
          alike = subst AreAlike (sym v) (joined_alike (views pass) (views from) same_length h.alike m.alike);
        },
        v,
      )
    where
      below : (i : ℕ) (u : Known) → slice_get (views pass) i ≡ Some u → i < n
      below i u a = (let w : i < length (views pass) = slice_get_within (views pass) i u a in let l = length-map pass.seats.items view in let o = h.lengths in omega arith)

pub left_some : {S : Type 0} (boards : List (Board S Call Made Opening)) (vs ws : List Known) (n : ℕ) (now left : List (SeatOf S Call Made Opening)) → Taking boards vs ws n now left → n < length boards → 0 < length left
left_some boards vs ws n now left h lt = (let e = each2_length IsFreeSeat (drop n boards) left h.others in let d = length-drop n boards in omega arith)
