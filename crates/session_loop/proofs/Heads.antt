-- The head that was found is the only one.
use Rattle.std.proofs.Common.{◌≡◌, ◌≤◌, ◌<◌, ℕ, ◌-◌, zero, suc, List, [], ◌∷◌, ◌++◌, length, take, drop, Bool, true, false, Result, Ok, Err, refl, sym, ap, subst, ◌∙◌, arith}
use Rattle.std.specs.Prelude.{IsTrue, ◌||◌, ◌&&◌, if◌then◌else◌}
use Rattle.std.specs.List.{list_any}
use Rattle.std.proofs.lemmas.List.{drop-drop}
use Rattle.http_head.specs.Bodies.{Reading, fresh}
use Rattle.http_head.specs.Heads.{FindsHeadEnd, IsHeadOf, HasNoHeadEnd, is_text, ends_head, ends_line}
use Rattle.http_head.specs.Requests.{Parts, ReadsHead}
use Rattle.http_head.specs.declared.head.HeadEnd.{HeadEnd}
use Rattle.http_head.specs.declared.head.HeadEnd.TheVariants as heads
use Rattle.http_head.specs.declared.target.Route.{Route}
use Rattle.http_head.proofs.LongerHeads.{found_stays}
use Rattle.http_head.proofs.OneReading.{heads_end_once, heads_read_once}
use Rattle.session_loop.specs.Cutting.{Request, Ending, ended, HasHead, IsBody, StopsInBody, Stops, nothing, open_head, long_head, bad_head, in_body, wish_of, is_last, Cut}
use Rattle.session_loop.specs.Courses.{Course, ends, refusing, ending_course, course}
use Rattle.session_loop.specs.Sessions.{Machine, Serves, Follows, BodyServes, stops, whole, Future, IsRefusing}
use Rattle.session_loop.specs.declared.want.SessionEnd.TheVariants.{Ended}
use Rattle.session_loop.proofs.Answered.{future_refused, no_truth}
use Rattle.session_loop.proofs.Bodies.{drop_here, take_here}

-- ---- no head, and a head

take_nil : (n : ℕ) → ◌≡◌ {A = List ℕ} (take n []) []
take_nil zero = refl
take_nil (suc n) = refl

front_of : (p : ℕ → Bool) (l : List ℕ) (n : ℕ) → IsTrue (list_any p (take n l)) → IsTrue (list_any p l)
front_of p [] n h = subst (λ (x : List ℕ). IsTrue (list_any p x)) (take_nil n) h
front_of p (x ∷ l) zero h = absurd (no_truth h)
front_of p (x ∷ l) (suc n) h = either (p x) (list_any p (take n l)) (list_any p l) (front_of p l n) h
  where
    either : (a b c : Bool) → (IsTrue b → IsTrue c) → IsTrue (a || b) → IsTrue (a || c)
    either true b c f h = refl
    either false b c f h = f h

left_true : (a b : Bool) → IsTrue (a && b) → IsTrue a
left_true true b h = refl
left_true false b h = absurd (no_truth h)

pub has_text : (bytes : List ℕ) (n : ℕ) → IsTrue (ends_head (take n bytes)) → list_any is_text bytes ≡ false → ⊥
has_text bytes n found none = no_truth (subst IsTrue none (front_of is_text bytes n (left_true (list_any is_text (take n bytes)) (ends_line (take n bytes)) found)))

module _ (names : List (List ℕ)) (bytes : List ℕ) (end : ℕ) (short : end ≤ 16_384) (head : IsHeadOf bytes end) where
  no_nothing : list_any is_text bytes ≡ false → ⊥
  no_nothing none = has_text bytes end head.ends none

  no_open : HasNoHeadEnd (length bytes) bytes → ⊥
  no_open h = h end head.within head.ends

  no_long : HasNoHeadEnd 16_384 bytes → ⊥
  no_long h = h end short head.ends

  same_said : (said other : Result Parts ℕ) (n : ℕ) → ReadsHead names (take end bytes) said → HasHead names bytes n other → (n ≡ end) × (said ≡ other)
  same_said said other n reads has =
      let e : n ≡ end = heads_end_once bytes n end has.head head in (
        e,
        heads_read_once names (take end bytes) said other reads (subst (λ (k : ℕ). ReadsHead names (take k bytes) other) e has.reads),
      )

err_same : (a b : ℕ) → ◌≡◌ {A = Result Parts ℕ} (Err a) (Err b) → a ≡ b
err_same a b e = cc

err_not_ok : (a : ℕ) (p : Parts) → ◌≡◌ {A = Result Parts ℕ} (Err a) (Ok p) → ⊥
err_not_ok a p e = cc

ok_same : (p q : Parts) → ◌≡◌ {A = Result Parts ℕ} (Ok p) (Ok q) → p ≡ q
ok_same p q e = cc

not_more_at : (end : ℕ) → ◌≡◌ {A = HeadEnd} (heads.At end) heads.More → ⊥
not_more_at end e = cc

too_long_not_more : ◌≡◌ {A = HeadEnd} heads.TooLong heads.More → ⊥
too_long_not_more e = cc

-- ---- a head that is too long

no_head : (names : List (List ℕ)) (bytes : List ℕ) (n : ℕ) (said : Result Parts ℕ) → HasNoHeadEnd 16_384 bytes → HasHead names bytes n said → ⊥
no_head names bytes n said none has = none n has.short has.head.ends

not_both : (n : ℕ) → 16_384 ≤ n → n < 16_384 → ⊥
not_both n a b = omega arith

pub long_tracks : (m n : Machine) → FindsHeadEnd m.input heads.TooLong → IsRefusing 431 n → (rest : List ℕ) (c : Course) → Serves m.names m.left (m.input ++ rest) c → Future n rest c
long_tracks m n found refuses rest c (requests, ending, cut, e) = go requests cut e
  where
    there : FindsHeadEnd (m.input ++ rest) heads.TooLong
    there = found_stays m.input rest heads.TooLong too_long_not_more found

    stopped : (ending : Ending) → Stops m.names (m.input ++ rest) ending → c ≡ ending_course ending → Future n rest c
    stopped ending (nothing few none) e = absurd (not_both (length (m.input ++ rest)) there.0 few)
    stopped ending (open_head few none some) e = absurd (not_both (length (m.input ++ rest)) there.0 few)
    stopped ending (long_head many none) e = future_refused 431 n rest c refuses e
    stopped ending (bad_head k status has) e = absurd (no_head m.names (m.input ++ rest) k (Err status) there.1 has)
    stopped ending (in_body k parts x has s) e = absurd (no_head m.names (m.input ++ rest) k (Ok parts) there.1 has)

    go : (requests : List Request) → Cut m.names m.left (m.input ++ rest) requests ending → c ≡ course m.names m.left requests ending → Future n rest c
    go [] cut e = stopped ending cut e
    go (r ∷ requests) cut e = absurd (no_head m.names (m.input ++ rest) cut.1.head_length (Ok cut.1.parts) there.1 cut.1.head)

-- ---- a head that is refused

pub bad_head_tracks : (m n : Machine) (end status : ℕ) → FindsHeadEnd m.input (heads.At end) → ReadsHead m.names (take end m.input) (Err status) → IsRefusing status n
    → (rest : List ℕ) (c : Course) → Serves m.names m.left (m.input ++ rest) c → Future n rest c
bad_head_tracks m n end status found reads refuses rest c (requests, ending, cut, e) = go requests cut e
  where
    there : FindsHeadEnd (m.input ++ rest) (heads.At end)
    there = found_stays m.input rest (heads.At end) (not_more_at end) found

    said : ReadsHead m.names (take end (m.input ++ rest)) (Err status)
    said = subst (λ (l : List ℕ). ReadsHead m.names l (Err status)) (sym (take_here m.input rest end found.1.within)) reads

    stopped : (ending : Ending) → Stops m.names (m.input ++ rest) ending → c ≡ ending_course ending → Future n rest c
    stopped ending (nothing few none) e = absurd (no_nothing m.names (m.input ++ rest) end there.0 there.1 none)
    stopped ending (open_head few none some) e = absurd (no_open m.names (m.input ++ rest) end there.0 there.1 none)
    stopped ending (long_head many none) e = absurd (no_long m.names (m.input ++ rest) end there.0 there.1 none)
    stopped ending (bad_head k other has) e =
        let x = same_said m.names (m.input ++ rest) end there.0 there.1 (Err status) (Err other) k said has in
        future_refused status n rest c refuses (e ∙ ap refusing (sym (err_same status other x.1)))
    stopped ending (in_body k parts x has s) e =
        absurd (err_not_ok status parts (same_said m.names (m.input ++ rest) end there.0 there.1 (Err status) (Ok parts) k said has).1)

    go : (requests : List Request) → Cut m.names m.left (m.input ++ rest) requests ending → c ≡ course m.names m.left requests ending → Future n rest c
    go [] cut e = stopped ending cut e
    go (r ∷ requests) cut e =
        absurd (err_not_ok status cut.1.parts (same_said m.names (m.input ++ rest) end there.0 there.1 (Err status) (Ok cut.1.parts) cut.1.head_length said cut.1.head).1)

-- ---- a head that asks for something

pub head_tracks : (m n : Machine) (end : ℕ) (parts : Parts) → FindsHeadEnd m.input (heads.At end) → ReadsHead m.names (take end m.input) (Ok parts)
    → n.names ≡ m.names → n.left ≡ m.left → n.user ≡ parts.user → n.body ≡ fresh parts.framing
    → (rest : List ℕ) (c : Course) → Serves m.names m.left (m.input ++ rest) c → BodyServes n parts.route parts.close (drop end m.input ++ rest) c
head_tracks m n end parts found reads names left user body rest c (requests, ending, cut, e) = go requests cut e
  where
    there : FindsHeadEnd (m.input ++ rest) (heads.At end)
    there = found_stays m.input rest (heads.At end) (not_more_at end) found

    said : ReadsHead m.names (take end (m.input ++ rest)) (Ok parts)
    said = subst (λ (l : List ℕ). ReadsHead m.names l (Ok parts)) (sym (take_here m.input rest end found.1.within)) reads

    place : drop end (m.input ++ rest) ≡ drop end m.input ++ rest
    place = drop_here m.input rest end found.1.within

    reading : (other : Parts) → parts ≡ other → fresh other.framing ≡ n.body
    reading other e = ap (λ (p : Parts). fresh p.framing) (sym e) ∙ sym body

    stopped : (ending : Ending) → Stops m.names (m.input ++ rest) ending → c ≡ ending_course ending → BodyServes n parts.route parts.close (drop end m.input ++ rest) c
    stopped ending (nothing few none) e = absurd (no_nothing m.names (m.input ++ rest) end there.0 there.1 none)
    stopped ending (open_head few none some) e = absurd (no_open m.names (m.input ++ rest) end there.0 there.1 none)
    stopped ending (long_head many none) e = absurd (no_long m.names (m.input ++ rest) end there.0 there.1 none)
    stopped ending (bad_head k status has) e =
        absurd (err_not_ok status parts (sym (same_said m.names (m.input ++ rest) end there.0 there.1 (Ok parts) (Err status) k said has).1))
    stopped ending (in_body k other x has s) e =
        let y = same_said m.names (m.input ++ rest) end there.0 there.1 (Ok parts) (Ok other) k said has in
        let same : parts ≡ other = ok_same parts other y.1 in
        stops ending
        (subst (λ (r : Route). StopsInBody r n.body (drop end m.input ++ rest) ending) (ap (λ (p : Parts). p.route) (sym same))
        (subst (λ (l : List ℕ). StopsInBody other.route n.body l ending) (ap (λ (i : ℕ). drop i (m.input ++ rest)) y.0 ∙ place)
        (subst (λ (b : Reading). StopsInBody other.route b (drop k (m.input ++ rest)) ending) (reading other same) s))) e

    followed : (b : Bool) (r : Request) (requests : List Request) (used : ℕ) → is_last m.left r.close ≡ b
        → (IsTrue (is_last m.left r.close) → (requests ≡ []) × (ending ≡ ended)) → (is_last m.left r.close ≡ false → Cut m.names (m.left - 1) (drop used (m.input ++ rest)) requests ending)
        → Follows m.names m.left r.close (drop used (m.input ++ rest)) (if is_last m.left r.close then ends Ended else course m.names (m.left - 1) requests ending)
    followed true r requests used last closes stays = rw last (record { closes = λ t. refl; stays = λ f. absurd (let x = sym last ∙ f in cc) })
    followed false r requests used last closes stays = rw last (record { closes = λ t. absurd (no_truth (subst IsTrue last t)); stays = λ f. (requests, ending, stays last, refl) })

    go : (requests : List Request) → Cut m.names m.left (m.input ++ rest) requests ending → c ≡ course m.names m.left requests ending
        → BodyServes n parts.route parts.close (drop end m.input ++ rest) c
    go [] cut e = stopped ending cut e
    go (r ∷ requests) (used, is, closes, stays) e =
        let y = same_said m.names (m.input ++ rest) end there.0 there.1 (Ok parts) (Ok is.parts) is.head_length said is.head in
        let same : parts ≡ is.parts = ok_same parts is.parts y.1 in
        let at : drop is.head_length (m.input ++ rest) ≡ drop end m.input ++ rest = ap (λ (i : ℕ). drop i (m.input ++ rest)) y.0 ∙ place in
        let close_is : r.close ≡ parts.close = is.close_is ∙ ap (λ (p : Parts). p.close) (sym same) in
        let user_is : r.user ≡ n.user = is.user_is ∙ ap (λ (p : Parts). p.user) (sym same) ∙ sym user in
        let go_on : Course = if is_last m.left r.close then ends Ended else course m.names (m.left - 1) requests ending in
        let f : Follows m.names m.left r.close (drop used (m.input ++ rest)) go_on = followed (is_last m.left r.close) r requests used refl closes stays in
        let where_is : drop used (m.input ++ rest) ≡ drop is.body_length (drop end m.input ++ rest) =
        ap (λ (k : ℕ). drop k (m.input ++ rest)) is.used_is ∙ sym (drop-drop is.body_length is.head_length (m.input ++ rest)) ∙ ap (drop is.body_length) at in
        let f2 : Follows n.names n.left parts.close (drop is.body_length (drop end m.input ++ rest)) go_on =
        rw (names, left, ← close_is) (subst (λ (l : List ℕ). Follows m.names m.left r.close l go_on) where_is f) in
        whole is.body_length is.body r.wish
        (subst (λ (b : Reading). IsBody b (drop end m.input ++ rest) is.body_length is.body) (reading is.parts same)
        (subst (λ (l : List ℕ). IsBody (fresh is.parts.framing) l is.body_length is.body) at is.is_body))
        (ap (λ (p : Parts). wish_of p.route is.body) same ∙ is.wish)
        (go_on, f2, rw (names, left, ← user_is, ← close_is) e)
