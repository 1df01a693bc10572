-- What can come of the bytes of a request, part by part.
use Rattle.std.proofs.Common.{◌≡◌, ◌≤◌, ℕ, ◌+◌, ◌-◌, List, [], ◌∷◌, ◌++◌, length, take, drop, Bool, true, false, Result, Ok, Err, refl, sym, ap, subst, ◌∙◌}
use Rattle.std.specs.Prelude.{IsTrue, if◌then◌else◌}
use Rattle.std.proofs.lemmas.List.{drop-drop}
use Rattle.http_head.specs.Bodies.{Reading, Feeds, fresh}
use Rattle.http_head.specs.Heads.{FindsHeadEnd}
use Rattle.http_head.specs.Requests.{Parts, ReadsHead}
use Rattle.http_head.specs.declared.body.Fed.{Fed}
use Rattle.http_head.specs.declared.body.Fed.TheVariants.{More, Done, Bad}
use Rattle.http_head.specs.declared.head.HeadEnd.{HeadEnd}
use Rattle.http_head.specs.declared.head.HeadEnd.TheVariants as heads
use Rattle.http_head.specs.declared.target.Route.{Route}
use Rattle.http_head.proofs.LongerHeads.{found_stays}
use Rattle.session_loop.specs.Cutting.{Wish, Request, Ending, ended, refused, refused_envelope, HasHead, IsBody, StopsInBody, bad_envelope, long_head, bad_head, in_body, IsRequestTo, wish_of, is_last}
use Rattle.session_loop.specs.Courses.{Course, ends, requested, course}
use Rattle.session_loop.specs.Sessions.{Machine, Serves, Follows, Judged, BodyServes, stops, whole, Future, FutureAt, IsRefusing, LeadsInBody}
use Rattle.session_loop.specs.declared.want.SessionEnd.TheVariants.{Ended}
use Rattle.session_loop.specs.declared.stage.Stage.{Stage}
use Rattle.session_loop.specs.declared.stage.Stage.TheVariants.{InBody, Timing}
use Rattle.session_loop.proofs.Answered.{refused_future, no_truth}
use Rattle.session_loop.proofs.Ending.{rest_is}
use Rattle.session_loop.proofs.Bodies.{body_later, body_here, stops_later, stops_here, drop_later, drop_here, take_here}

-- ---- a body

-- it goes on behind these bytes
pub more_leads : (m n : Machine) (route : Route) (close : Bool) (bytes : List ℕ) → n.names ≡ m.names → n.left ≡ m.left → n.user ≡ m.user → n.stage ≡ InBody route close
    → Feeds m.body bytes n.body More → LeadsInBody m route close bytes n
more_leads m n route close bytes names left user at feeds rest c future =
    go (subst (λ (st : Stage). FutureAt st n rest c) at future)
  where
    judged : (wish : Wish) (l : List ℕ) → Judged n close (Ok wish) l c → Judged m close (Ok wish) l c
    judged wish l h = rw (sym names, sym left, sym user) h

    go : BodyServes n route close rest c → BodyServes m route close (bytes ++ rest) c
    go (stops ending s e) = stops ending (stops_later route m.body n.body bytes rest ending feeds s) e
    go (whole used body wish is w j) = whole (length bytes + used) body wish (body_later m.body n.body bytes rest used body feeds is) w
        (subst (λ (l : List ℕ). Judged m close (Ok wish) l c) (sym (drop_later bytes rest used)) (judged wish (drop used rest) j))

-- a session that differs elsewhere
pub body_like : (m k : Machine) (route : Route) (close : Bool) (bytes : List ℕ) (c : Course) → k.names ≡ m.names → k.left ≡ m.left → k.user ≡ m.user → k.body ≡ m.body
    → BodyServes k route close bytes c → BodyServes m route close bytes c
body_like m k route close bytes c names left user body (stops ending s e) = stops ending (subst (λ (r : Reading). StopsInBody route r bytes ending) body s) e
body_like m k route close bytes c names left user body (whole used text wish is w j) =
    whole used text wish (subst (λ (r : Reading). IsBody r bytes used text) body is) w (rw (sym names, sym left, sym user) j)

-- it is whole
done_case : (w : Result Wish ℕ) (m : Machine) (n : Machine) (route : Route) (close : Bool) (bytes rest : List ℕ) (used : ℕ) (c : Course) → wish_of route n.body.body ≡ w
    → used ≤ length bytes → Feeds m.body bytes n.body (Done used) → Judged m close w (drop used bytes ++ rest) c → BodyServes m route close (bytes ++ rest) c
done_case (Ok wish) m n route close bytes rest used c is within feeds j =
    whole used n.body.body wish (body_here m.body n.body bytes rest used feeds) is
    (subst (λ (l : List ℕ). Judged m close (Ok wish) l c) (sym (drop_here bytes rest used within)) j)
done_case (Err status) m n route close bytes rest used c is within feeds j =
    stops (refused_envelope status) (bad_envelope used status n.body.body (body_here m.body n.body bytes rest used feeds) is) j

pub done_leads : (m n : Machine) (route : Route) (close : Bool) (bytes : List ℕ) (used : ℕ) → n.names ≡ m.names → n.left ≡ m.left → n.user ≡ m.user → n.stage ≡ Timing route close
    → n.input ≡ drop used bytes → used ≤ length bytes → Feeds m.body bytes n.body (Done used) → LeadsInBody m route close bytes n
done_leads m n route close bytes used names left user at input within feeds rest c future =
    done_case (wish_of route n.body.body) m n route close bytes rest used c refl within feeds
    (judged (wish_of route n.body.body) (subst (λ (l : List ℕ). Judged n close (wish_of route n.body.body) (l ++ rest) c) input (subst (λ (st : Stage). FutureAt st n rest c) at future)))
  where
    judged : (w : Result Wish ℕ) → Judged n close w (drop used bytes ++ rest) c → Judged m close w (drop used bytes ++ rest) c
    judged (Ok wish) h = rw (sym names, sym left, sym user) h
    judged (Err status) h = h

-- it is refused
pub bad_leads : (m n : Machine) (t : Reading) (route : Route) (close : Bool) (bytes : List ℕ) (status : ℕ) → Feeds m.body bytes t (Bad status) → IsRefusing status n
    → LeadsInBody m route close bytes n
bad_leads m n t route close bytes status feeds refuses rest c future =
    stops (refused status) (stops_here route m.body t bytes rest status feeds) (refused_future status n rest c refuses future)

-- what the rest of the bytes that came is, from this place on
pub places : (l : List ℕ) (from at : ℕ) → take (length l - (from + at)) (drop (from + at) l) ≡ drop at (drop from l)
places l from at = rest_is l (from + at) ∙ sym (drop-drop at from l)

pub feeds_at : (from at : ℕ) (l : List ℕ) (s : Reading) (m : Machine) (t : Reading) → drop from l ≡ m.input → s ≡ m.body → (fed : Fed)
    → Feeds s (take (length l - (from + at)) (drop (from + at) l)) t fed → Feeds m.body (drop at m.input) t fed
feeds_at from at l s m t input body fed feeds =
    subst (λ (r : Reading). Feeds r (drop at m.input) t fed) body
    (subst (λ (bytes : List ℕ). Feeds s bytes t fed) (places l from at ∙ ap (drop at) input) feeds)

pub place_behind : (l : List ℕ) (from at used : ℕ) (input : List ℕ) → drop from l ≡ input → drop (from + at + used) l ≡ drop used (drop at input)
place_behind l from at used input e = sym (drop-drop used (from + at) l) ∙ ap (drop used) (sym (drop-drop at from l) ∙ ap (drop at) e)

-- ---- a head

not_more_at : (end : ℕ) → ◌≡◌ {A = HeadEnd} (heads.At end) heads.More → ⊥
not_more_at end e = cc

too_long_not_more : ◌≡◌ {A = HeadEnd} heads.TooLong heads.More → ⊥
too_long_not_more e = cc

pub long_leads : (m n : Machine) → FindsHeadEnd m.input heads.TooLong → IsRefusing 431 n → (rest : List ℕ) (c : Course) → Future n rest c → Serves m.names m.left (m.input ++ rest) c
long_leads m n found refuses rest c future =
    let there = found_stays m.input rest heads.TooLong too_long_not_more found in
    ([], refused 431, long_head there.0 there.1, refused_future 431 n rest c refuses future)

head_stays : (names : List (List ℕ)) (bytes rest : List ℕ) (end : ℕ) (said : Result Parts ℕ) → FindsHeadEnd bytes (heads.At end) → ReadsHead names (take end bytes) said
    → HasHead names (bytes ++ rest) end said
head_stays names bytes rest end said found reads =
    let there = found_stays bytes rest (heads.At end) (not_more_at end) found in record {
      short = there.0;
      head = there.1;
      reads = subst (λ (l : List ℕ). ReadsHead names l said) (sym (take_here bytes rest end found.1.within)) reads;
    }

pub bad_head_leads : (m n : Machine) (end status : ℕ) → FindsHeadEnd m.input (heads.At end) → ReadsHead m.names (take end m.input) (Err status) → IsRefusing status n
    → (rest : List ℕ) (c : Course) → Future n rest c → Serves m.names m.left (m.input ++ rest) c
bad_head_leads m n end status found reads refuses rest c future =
    ([], refused status, bad_head end status (head_stays m.names m.input rest end (Err status) found reads), refused_future status n rest c refuses future)

-- a whole request, and what follows it
last_case : (b : Bool) (names : List (List ℕ)) (left : ℕ) (bytes : List ℕ) (used : ℕ) (r : Request) (c go_on : Course) → is_last left r.close ≡ b → IsRequestTo names bytes used r
    → Follows names left r.close (drop used bytes) go_on → c ≡ requested names r (is_last left r.close) go_on → Serves names left bytes c
last_case true names left bytes used r c go_on last is follows e = (
  r ∷ [],
  ended,
  (used, is, λ t. (refl, refl), λ f. absurd (let x = sym last ∙ f in cc)),
  e ∙ ap (requested names r (is_last left r.close)) (follows.closes (subst IsTrue (sym last) refl) ∙ sym (picks last)),
)
  where
    picks : is_last left r.close ≡ true → (if is_last left r.close then ends Ended else course names (left - 1) [] ended) ≡ ends Ended
    picks h = rw h refl
last_case false names left bytes used r c go_on last is follows e =
    let s : Serves names (left - 1) (drop used bytes) go_on = follows.stays last in (
      r ∷ s.0,
      s.1,
      (used, is, λ t. absurd (no_truth (subst IsTrue last t)), λ f. s.2),
      e ∙ ap (requested names r (is_last left r.close)) (s.3 ∙ sym (picks last s.0 s.1)),
    )
  where
    picks : is_last left r.close ≡ false → (l : List Request) (x : Ending) → (if is_last left r.close then ends Ended else course names (left - 1) l x) ≡ course names (left - 1) l x
    picks h l x = rw h refl

pub head_leads : (m n : Machine) (end : ℕ) (parts : Parts) → FindsHeadEnd m.input (heads.At end) → ReadsHead m.names (take end m.input) (Ok parts)
    → n.names ≡ m.names → n.left ≡ m.left → n.user ≡ parts.user → n.body ≡ fresh parts.framing
    → (rest : List ℕ) (c : Course) → BodyServes n parts.route parts.close (drop end m.input ++ rest) c → Serves m.names m.left (m.input ++ rest) c
head_leads m n end parts found reads names left user body rest c serves = go serves
  where
    has : HasHead m.names (m.input ++ rest) end (Ok parts)
    has = head_stays m.names m.input rest end (Ok parts) found reads

    place : drop end (m.input ++ rest) ≡ drop end m.input ++ rest
    place = drop_here m.input rest end found.1.within

    go : BodyServes n parts.route parts.close (drop end m.input ++ rest) c → Serves m.names m.left (m.input ++ rest) c
    go (stops ending s e) = (
      [],
      ending,
      in_body end parts ending has (subst (λ (x : Reading). StopsInBody parts.route x (drop end (m.input ++ rest)) ending) body
          (subst (λ (l : List ℕ). StopsInBody parts.route n.body l ending) (sym place) s)),
      e,
    )
    go (whole used text wish is w (go_on, follows, e)) =
        let r : Request = record { wish = wish; user = parts.user; close = parts.close } in
        let e2 : c ≡ requested m.names r (is_last m.left parts.close) go_on = rw (sym names, sym left, sym user) e in
        let f2 : Follows m.names m.left parts.close (drop used (drop end m.input ++ rest)) go_on = rw (sym names, sym left) follows in
        let behind : drop used (drop end m.input ++ rest) ≡ drop (end + used) (m.input ++ rest) = ap (drop used) (sym place) ∙ drop-drop used end (m.input ++ rest) in
        last_case (is_last m.left parts.close) m.names m.left (m.input ++ rest) (end + used) r c go_on refl (record {
          head_length = end;
          body_length = used;
          parts = parts;
          head = has;
          body = text;
          is_body = subst (λ (x : Reading). IsBody x (drop end (m.input ++ rest)) used text) body (subst (λ (l : List ℕ). IsBody n.body l used text) (sym place) is);
          wish = w;
          used_is = refl;
          user_is = refl;
          close_is = refl;
        }) (subst (λ (l : List ℕ). Follows m.names m.left parts.close l go_on) behind f2) e2
