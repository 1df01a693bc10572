-- Bytes are cut in one way.
use Rattle.std.proofs.Common.{◌≡◌, ◌⊎◌, ◌<◌, ◌≤◌, ◌-◌, ℕ, List, [], ◌∷◌, length, take, drop, Bool, true, false, IsTrue, Result, Ok, Err, arith, ap, sym, subst, refl, ◌∙◌, inl, inr, if◌then◌else◌, nat_le}
use Rattle.std.proofs.lemmas.Grind.{common_steps}
use Rattle.std.specs.List.{list_any}
use Rattle.http_head.specs.Heads.{is_text}
use Rattle.http_head.specs.Requests.{Parts, ReadsHead}
use Rattle.http_head.specs.Bodies.{Reading, fresh}
use Rattle.http_head.specs.declared.body.Fed.{Fed}
use Rattle.http_head.specs.declared.body.Fed.TheVariants.{More, Done, Bad}
use Rattle.http_head.specs.declared.target.Route.{Route}
use Rattle.http_head.proofs.Cutting.{outcomes_are_one}
use Rattle.http_head.proofs.OneReading.{heads_end_once, heads_read_once}
use Rattle.session_loop.specs.Cutting.{Wish, Request, Ending, ended, cut_off, refused, refused_envelope, HasHead, wish_of, IsBody, StopsInBody, open_body, bad_body, bad_envelope, Stops, nothing, open_head, long_head, bad_head, in_body, IsRequestTo, Cut, is_last}
use Rattle.session_loop.proofs.Heads.{has_text}

-- ---- bodies

more_not_bad : (status : ℕ) → ◌≡◌ {A = Fed} More (Bad status) → ⊥
more_not_bad status e = cc

more_not_done : (used : ℕ) → ◌≡◌ {A = Fed} More (Done used) → ⊥
more_not_done used e = cc

bad_not_done : (status used : ℕ) → ◌≡◌ {A = Fed} (Bad status) (Done used) → ⊥
bad_not_done status used e = cc

bad_same : (i j : ℕ) → ◌≡◌ {A = Fed} (Bad i) (Bad j) → i ≡ j
bad_same i j e = cc

done_same : (i j : ℕ) → ◌≡◌ {A = Fed} (Done i) (Done j) → i ≡ j
done_same i j e = cc

err_same : {A : Type 0} (i j : ℕ) → ◌≡◌ {A = Result A ℕ} (Err i) (Err j) → i ≡ j
err_same i j e = cc

ok_same : {A : Type 0} (a b : A) → ◌≡◌ {A = Result A ℕ} (Ok a) (Ok b) → a ≡ b
ok_same a b e = cc

err_not_ok : {A : Type 0} (i : ℕ) (a : A) → ◌≡◌ {A = Result A ℕ} (Err i) (Ok a) → ⊥
err_not_ok i a e = cc

pub bodies_are_one : (s : Reading) (bytes a b : List ℕ) (i j : ℕ) → IsBody s bytes i a → IsBody s bytes j b → (i ≡ j) × (a ≡ b)
bodies_are_one s bytes a b i j (t, x, is) (u, y, is_too) =
    let r = outcomes_are_one s t u bytes (Done i) (Done j) x y in
    (done_same i j r.1, sym is ∙ ap (λ (k : Reading). k.body) r.0 ∙ is_too)

pub body_ends_once : (route : Route) (s : Reading) (bytes : List ℕ) (e f : Ending) → StopsInBody route s bytes e → StopsInBody route s bytes f → e ≡ f
body_ends_once route s bytes e f (open_body t x) (open_body u y) = refl
body_ends_once route s bytes e f (open_body t x) (bad_body u status y) = absurd (more_not_bad status (outcomes_are_one s t u bytes More (Bad status) x y).1)
body_ends_once route s bytes e f (open_body t x) (bad_envelope used status body (u, y, is) w) = absurd (more_not_done used (outcomes_are_one s t u bytes More (Done used) x y).1)
body_ends_once route s bytes e f (bad_body t i x) (open_body u y) = absurd (more_not_bad i (outcomes_are_one s u t bytes More (Bad i) y x).1)
body_ends_once route s bytes e f (bad_body t i x) (bad_body u j y) = ap refused (bad_same i j (outcomes_are_one s t u bytes (Bad i) (Bad j) x y).1)
body_ends_once route s bytes e f (bad_body t i x) (bad_envelope used status body (u, y, is) w) = absurd (bad_not_done i used (outcomes_are_one s t u bytes (Bad i) (Done used) x y).1)
body_ends_once route s bytes e f (bad_envelope used status body (t, x, is) w) (open_body u y) = absurd (more_not_done used (outcomes_are_one s u t bytes More (Done used) y x).1)
body_ends_once route s bytes e f (bad_envelope used status body (t, x, is) w) (bad_body u j y) = absurd (bad_not_done j used (outcomes_are_one s u t bytes (Bad j) (Done used) y x).1)
body_ends_once route s bytes e f (bad_envelope i a body x w) (bad_envelope j b other y v) =
    ap refused_envelope (err_same a b (sym w ∙ ap (wish_of route) (bodies_are_one s bytes body other i j x y).1 ∙ v))

pub body_stops_or_not : (route : Route) (s : Reading) (bytes body : List ℕ) (used : ℕ) (wish : Wish) (e : Ending) → StopsInBody route s bytes e
    → IsBody s bytes used body → wish_of route body ≡ Ok wish → ⊥
body_stops_or_not route s bytes body used wish e (open_body t x) (u, y, is) v = more_not_done used (outcomes_are_one s t u bytes More (Done used) x y).1
body_stops_or_not route s bytes body used wish e (bad_body t i x) (u, y, is) v = bad_not_done i used (outcomes_are_one s t u bytes (Bad i) (Done used) x y).1
body_stops_or_not route s bytes body used wish e (bad_envelope i status other x w) b v =
    err_not_ok status wish (sym w ∙ ap (wish_of route) (bodies_are_one s bytes other body i used x b).1 ∙ v)

-- ---- heads

-- what comes behind a head
abbrev HeadEnds : List ℕ → ℕ → Result Parts ℕ → Ending → Type 0
HeadEnds bytes n (Err status) e = e ≡ refused status
HeadEnds bytes n (Ok parts) e = StopsInBody parts.route (fresh parts.framing) (drop n bytes) e

abbrev headless_end : List ℕ → Ending
headless_end bytes = if nat_le 16_384 (length bytes) then refused 431 else (if list_any is_text bytes then cut_off else ended)

-- bytes without a whole request have no head, or go wrong behind it
abbrev How : List (List ℕ) → List ℕ → Ending → Type 0
How names bytes e =
    (((n : ℕ) (v : Result Parts ℕ) → HasHead names bytes n v → ⊥) × (e ≡ headless_end bytes))
    ⊎ ((n : ℕ) × (v : Result Parts ℕ) × HasHead names bytes n v × HeadEnds bytes n v e)

long_is : (bytes : List ℕ) → 16_384 ≤ length bytes → nat_le 16_384 (length bytes) ≡ true
long_is bytes h = grind (arith, common_steps)

short_is : (bytes : List ℕ) → length bytes < 16_384 → nat_le 16_384 (length bytes) ≡ false
short_is bytes h = grind (arith, common_steps)

short_end : (bytes : List ℕ) (b : Bool) → length bytes < 16_384 → list_any is_text bytes ≡ b → headless_end bytes ≡ (if b then cut_off else ended)
short_end bytes b short is =
    ap (λ (t : Bool). if t then refused 431 else (if list_any is_text bytes then cut_off else ended)) (short_is bytes short)
    ∙ ap (λ (t : Bool). if t then cut_off else ended) is

how : (names : List (List ℕ)) (bytes : List ℕ) (e : Ending) → Stops names bytes e → How names bytes e
how names bytes e (nothing short none) = inl (λ n v h. has_text bytes n h.head.ends none, sym (short_end bytes false short none))
how names bytes e (open_head short none is) = inl (λ n v h. none n h.head.within h.head.ends, sym (short_end bytes true short is))
how names bytes e (long_head long none) = inl (
  λ n v h. none n h.short h.head.ends,
  sym (ap (λ (t : Bool). if t then refused 431 else (if list_any is_text bytes then cut_off else ended)) (long_is bytes long)),
)
how names bytes e (bad_head n status h) = inr (n, Err status, h, refl)
how names bytes e (in_body n parts end h stops) = inr (n, Ok parts, h, stops)

-- a head and its verdict are one
heads_are_one : (names : List (List ℕ)) (bytes : List ℕ) (m n : ℕ) (v w : Result Parts ℕ) → HasHead names bytes m v → HasHead names bytes n w → (m ≡ n) × (v ≡ w)
heads_are_one names bytes m n v w x y =
    let e : m ≡ n = heads_end_once bytes m n x.head y.head in
    (e, heads_read_once names (take n bytes) v w (subst (λ (k : ℕ). ReadsHead names (take k bytes) v) e x.reads) y.reads)

same_ends : (bytes : List ℕ) (n : ℕ) (v : Result Parts ℕ) (e f : Ending) → HeadEnds bytes n v e → HeadEnds bytes n v f → e ≡ f
same_ends bytes n (Err status) e f x y = x ∙ sym y
same_ends bytes n (Ok parts) e f x y = body_ends_once parts.route (fresh parts.framing) (drop n bytes) e f x y

how_once : (names : List (List ℕ)) (bytes : List ℕ) (e f : Ending) → How names bytes e → How names bytes f → e ≡ f
how_once names bytes e f (inl (none, x)) (inl (none_too, y)) = x ∙ sym y
how_once names bytes e f (inl (none, x)) (inr (n, v, h, y)) = absurd (none n v h)
how_once names bytes e f (inr (n, v, h, x)) (inl (none, y)) = absurd (none n v h)
how_once names bytes e f (inr (m, v, h, x)) (inr (n, w, g, y)) =
    let r = heads_are_one names bytes m n v w h g in
    same_ends bytes m v e f x
    (subst (λ (u : Result Parts ℕ). HeadEnds bytes m u f) (sym r.1) (subst (λ (k : ℕ). HeadEnds bytes k w f) (sym r.0) y))

-- ---- requests

ends_no_request : (bytes : List ℕ) (n m : ℕ) (v : Result Parts ℕ) (parts : Parts) (body : List ℕ) (wish : Wish) (e : Ending) → HeadEnds bytes n v e → v ≡ Ok parts
    → IsBody (fresh parts.framing) (drop n bytes) m body → wish_of parts.route body ≡ Ok wish → ⊥
ends_no_request bytes n m (Err status) parts body wish e x is b w = err_not_ok status parts is
ends_no_request bytes n m (Ok p) parts body wish e x is b w =
    body_stops_or_not parts.route (fresh parts.framing) (drop n bytes) body m wish e
    (subst (λ (q : Parts). StopsInBody q.route (fresh q.framing) (drop n bytes) e) (ok_same p parts is) x) b w

stops_or_request : (names : List (List ℕ)) (bytes : List ℕ) (e : Ending) (used : ℕ) (r : Request) → How names bytes e → IsRequestTo names bytes used r → ⊥
stops_or_request names bytes e used r (inl (none, x)) q = none q.head_length (Ok q.parts) q.head
stops_or_request names bytes e used r (inr (n, v, h, x)) q =
    let s = heads_are_one names bytes n q.head_length v (Ok q.parts) h q.head in
    ends_no_request bytes n q.body_length v q.parts q.body r.wish e x s.1
    (subst (λ (k : ℕ). IsBody (fresh q.parts.framing) (drop k bytes) q.body_length q.body) (sym s.0) q.is_body) q.wish

same_request : (r q : Request) → r.wish ≡ q.wish → r.user ≡ q.user → r.close ≡ q.close → r ≡ q
same_request r q a b c =
    ap (λ x. record { wish = x; user = r.user; close = r.close }) a
    ∙ ap (λ x. record { wish = q.wish; user = x; close = r.close }) b
    ∙ ap (λ x. record { wish = q.wish; user = q.user; close = x }) c

requests_are_one : (names : List (List ℕ)) (bytes : List ℕ) (i j : ℕ) (r q : Request) → IsRequestTo names bytes i r → IsRequestTo names bytes j q → (i ≡ j) × (r ≡ q)
requests_are_one names bytes i j r q x y =
    let s = heads_are_one names bytes x.head_length y.head_length (Ok x.parts) (Ok y.parts) x.head y.head in
    let p : x.parts ≡ y.parts = ok_same x.parts y.parts s.1 in
    let b = bodies_are_one (fresh x.parts.framing) (drop x.head_length bytes) x.body y.body x.body_length y.body_length x.is_body
    (subst (λ (t : Parts). IsBody (fresh t.framing) (drop x.head_length bytes) y.body_length y.body) (sym p)
    (subst (λ (k : ℕ). IsBody (fresh y.parts.framing) (drop k bytes) y.body_length y.body) (sym s.0) y.is_body)) in
    let wish : r.wish ≡ q.wish =
    ok_same r.wish q.wish (sym x.wish ∙ ap (wish_of x.parts.route) b.1 ∙ ap (λ (t : Parts). wish_of t.route y.body) p ∙ y.wish) in
    let user : r.user ≡ q.user = x.user_is ∙ ap (λ (t : Parts). t.user) p ∙ sym y.user_is in
    let close : r.close ≡ q.close = x.close_is ∙ ap (λ (t : Parts). t.close) p ∙ sym y.close_is in
    let used : i ≡ j = omega (arith, x.used_is, y.used_is, s.0, b.0) in
    (used, same_request r q wish user close)

-- ---- the whole

-- the rest behind a request
rest_once : (b : Bool) (rs qs : List Request) (e f : Ending) (P Q : Type 0)
    → ((IsTrue b → (rs ≡ []) × (e ≡ ended)) × (b ≡ false → P)) → ((IsTrue b → (qs ≡ []) × (f ≡ ended)) × (b ≡ false → Q))
    → (P → Q → (rs ≡ qs) × (e ≡ f)) → (rs ≡ qs) × (e ≡ f)
rest_once true rs qs e f P Q x y both = let a = x.0 refl in let b = y.0 refl in (a.0 ∙ sym b.0, a.1 ∙ sym b.1)
rest_once false rs qs e f P Q x y both = both (x.1 refl) (y.1 refl)

pub cut_is_one : (rs qs : List Request) (names : List (List ℕ)) (left : ℕ) (bytes : List ℕ) (e f : Ending)
    → Cut names left bytes rs e → Cut names left bytes qs f → (rs ≡ qs) × (e ≡ f)
cut_is_one [] [] names left bytes e f x y = (refl, how_once names bytes e f (how names bytes e x) (how names bytes f y))
cut_is_one [] (q ∷ qs) names left bytes e f x (used, is, last, more) = absurd (stops_or_request names bytes e used q (how names bytes e x) is)
cut_is_one (r ∷ rs) [] names left bytes e f (used, is, last, more) y = absurd (stops_or_request names bytes f used r (how names bytes f y) is)
cut_is_one (r ∷ rs) (q ∷ qs) names left bytes e f (i, x, last, more) (j, y, last_too, more_too) =
    let s = requests_are_one names bytes i j r q x y in
    let close : q.close ≡ r.close = ap (λ (t : Request). t.close) (sym s.1) in
    let g = rest_once (is_last left r.close) rs qs e f (Cut names (left - 1) (drop i bytes) rs e) (Cut names (left - 1) (drop i bytes) qs f)
    (last, more)
    (subst (λ (c : Bool). (IsTrue (is_last left c) → (qs ≡ []) × (f ≡ ended)) × (is_last left c ≡ false → Cut names (left - 1) (drop i bytes) qs f)) close
    (last_too, λ going. subst (λ (k : ℕ). Cut names (left - 1) (drop k bytes) qs f) (sym s.0) (more_too going)))
    (λ a b. cut_is_one rs qs names (left - 1) (drop i bytes) e f a b) in
    (ap (λ h. h ∷ rs) s.1 ∙ ap (λ t. q ∷ t) g.0, g.1)
