-- What has come of the bytes of a request can come in no other way.
use Rattle.std.proofs.Common.{◌≡◌, ◌≢◌, ◌≤◌, inl, inr, ℕ, ◌+◌, List, ◌++◌, length, drop, Bool, Result, Ok, Err, refl, sym, ap, subst, ◌∙◌}
use Rattle.http_head.specs.Bodies.{Reading, Feeds}
use Rattle.http_head.specs.Cutting.{behind}
use Rattle.http_head.specs.declared.body.Fed.{Fed}
use Rattle.http_head.specs.declared.body.Fed.TheVariants.{More, Done, Bad}
use Rattle.http_head.specs.declared.target.Route.{Route}
use Rattle.http_head.proofs.Cutting.{outcomes_are_one}
use Rattle.session_loop.specs.Cutting.{Wish, Ending, refused, StopsInBody, open_body, bad_body, bad_envelope, wish_of}
use Rattle.session_loop.specs.Courses.{refusing, ending_course}
use Rattle.session_loop.specs.Sessions.{Machine, Judged, BodyServes, stops, whole, Future, FutureAt, IsRefusing, TracksInBody}
use Rattle.session_loop.specs.declared.stage.Stage.{Stage}
use Rattle.session_loop.specs.declared.stage.Stage.TheVariants.{InBody, Timing}
use Rattle.session_loop.proofs.Answered.{future_refused}
use Rattle.session_loop.proofs.Bodies.{feeds_ended, feeds_cut, drop_later, drop_here}

-- ---- outcomes

behind_more : (k : ℕ) (fed : Fed) → More ≡ behind k fed → fed ≡ More
behind_more k More e = refl
behind_more k (Done used) e = absurd cc
behind_more k (Bad status) e = absurd cc

behind_bad : (k status : ℕ) (fed : Fed) → ◌≡◌ {A = Fed} (Bad status) (behind k fed) → fed ≡ Bad status
behind_bad k status More e = absurd cc
behind_bad k status (Done used) e = absurd cc
behind_bad k status (Bad other) e = sym e

behind_done : (k used : ℕ) (fed : Fed) → ◌≡◌ {A = Fed} (Done used) (behind k fed) → (n : ℕ) × (fed ≡ Done n) × (used ≡ k + n)
behind_done k used More e = absurd cc
behind_done k used (Done n) e = (n, refl, cc)
behind_done k used (Bad status) e = absurd cc

more_or : (fed : Fed) → More ≡ fed → fed ≢ More → ⊥
more_or fed e ne = ne (sym e)

-- what comes behind a part that is not all
abbrev Later : Reading → Reading → List ℕ → List ℕ → Fed → Type 0
Later t u a b fed = (rest : Fed) × Feeds t b u rest × (fed ≡ behind (length a) rest)

later_only : (s t u : Reading) (a b : List ℕ) (fed : Fed) → Feeds s a t More → Feeds s (a ++ b) u fed → Later t u a b fed
later_only s t u a b fed first feeds =
    elim (feeds_cut s u a b fed feeds) [
      | inl here ↦ absurd (more_or fed (outcomes_are_one s t u a More fed first here.0).1 here.1)
      | inr x ↦ (x.rest, subst (λ (m : Reading). Feeds m b u x.rest) (sym (outcomes_are_one s t x.middle a More More first x.first).0) x.second, x.is)
    ]

-- ---- a body that goes on

pub more_tracks : (m n : Machine) (route : Route) (close : Bool) (bytes : List ℕ) → n.names ≡ m.names → n.left ≡ m.left → n.user ≡ m.user → n.stage ≡ InBody route close
    → Feeds m.body bytes n.body More → TracksInBody m route close bytes n
more_tracks m n route close bytes names left user at first rest c serves =
    subst (λ (st : Stage). FutureAt st n rest c) (sym at) (go serves)
  where
    judged : (wish : Wish) (l : List ℕ) → Judged m close (Ok wish) l c → Judged n close (Ok wish) l c
    judged wish l h = rw (names, left, user) h

    stopped : (ending : Ending) → StopsInBody route m.body (bytes ++ rest) ending → StopsInBody route n.body rest ending
    stopped ending (open_body u feeds) =
        let x = later_only m.body n.body u bytes rest More first feeds in
        open_body u (subst (λ (f : Fed). Feeds n.body rest u f) (behind_more (length bytes) x.0 x.2) x.1)
    stopped ending (bad_body u status feeds) =
        let x = later_only m.body n.body u bytes rest (Bad status) first feeds in
        bad_body u status (subst (λ (f : Fed). Feeds n.body rest u f) (behind_bad (length bytes) status x.0 x.2) x.1)
    stopped ending (bad_envelope used status body (u, feeds, is) w) =
        let x = later_only m.body n.body u bytes rest (Done used) first feeds in
        let y = behind_done (length bytes) used x.0 x.2 in
        bad_envelope y.0 status body (u, subst (λ (f : Fed). Feeds n.body rest u f) y.1 x.1, is) w

    go : BodyServes m route close (bytes ++ rest) c → BodyServes n route close rest c
    go (stops ending s e) = stops ending (stopped ending s) e
    go (whole used body wish (u, feeds, is) w j) =
        let x = later_only m.body n.body u bytes rest (Done used) first feeds in
        let y = behind_done (length bytes) used x.0 x.2 in
        let place : drop used (bytes ++ rest) ≡ drop y.0 rest = ap (λ (k : ℕ). drop k (bytes ++ rest)) y.2 ∙ drop_later bytes rest y.0 in
        whole y.0 body wish (u, subst (λ (f : Fed). Feeds n.body rest u f) y.1 x.1, is) w
        (subst (λ (l : List ℕ). Judged n close (Ok wish) l c) place (judged wish (drop used (bytes ++ rest)) j))

-- ---- a body that is whole, or refused

ended_only : (s t u : Reading) (a b : List ℕ) (fed other : Fed) → fed ≢ More → Feeds s a t fed → Feeds s (a ++ b) u other → (t ≡ u) × (fed ≡ other)
ended_only s t u a b fed other ne first feeds = outcomes_are_one s t u (a ++ b) fed other (feeds_ended s t a b fed ne first) feeds

done_not_more : (used : ℕ) → ◌≡◌ {A = Fed} (Done used) More → ⊥
done_not_more used e = cc

done_not_bad : (used status : ℕ) → ◌≡◌ {A = Fed} (Done used) (Bad status) → ⊥
done_not_bad used status e = cc

done_same : (i j : ℕ) → ◌≡◌ {A = Fed} (Done i) (Done j) → i ≡ j
done_same i j e = cc

bad_not_more : (status : ℕ) → ◌≡◌ {A = Fed} (Bad status) More → ⊥
bad_not_more status e = cc

bad_same : (i j : ℕ) → ◌≡◌ {A = Fed} (Bad i) (Bad j) → i ≡ j
bad_same i j e = cc

pub done_tracks : (m n : Machine) (route : Route) (close : Bool) (bytes : List ℕ) (used : ℕ) → n.names ≡ m.names → n.left ≡ m.left → n.user ≡ m.user → n.stage ≡ Timing route close
    → n.input ≡ drop used bytes → used ≤ length bytes → Feeds m.body bytes n.body (Done used) → TracksInBody m route close bytes n
done_tracks m n route close bytes used names left user at input within first rest c serves =
    subst (λ (st : Stage). FutureAt st n rest c) (sym at)
    (subst (λ (l : List ℕ). Judged n close (wish_of route n.body.body) (l ++ rest) c) (sym input) (go serves))
  where
    judged : (w : Result Wish ℕ) → Judged m close w (drop used bytes ++ rest) c → Judged n close w (drop used bytes ++ rest) c
    judged (Ok wish) h = rw (names, left, user) h
    judged (Err status) h = h

    same_body : (u : Reading) (body : List ℕ) → n.body ≡ u → u.body ≡ body → n.body.body ≡ body
    same_body u body e f = ap (λ (x : Reading). x.body) e ∙ f

    refuses : (ending : Ending) → StopsInBody route m.body (bytes ++ rest) ending → c ≡ ending_course ending → Judged n close (wish_of route n.body.body) (drop used bytes ++ rest) c
    refuses ending (open_body u feeds) e = absurd (done_not_more used (ended_only m.body n.body u bytes rest (Done used) More (done_not_more used) first feeds).1)
    refuses ending (bad_body u status feeds) e = absurd (done_not_bad used status (ended_only m.body n.body u bytes rest (Done used) (Bad status) (done_not_more used) first feeds).1)
    refuses ending (bad_envelope i status body (u, feeds, is) w) e =
        let x = ended_only m.body n.body u bytes rest (Done used) (Done i) (done_not_more used) first feeds in
        let b : wish_of route n.body.body ≡ Err status = ap (wish_of route) (same_body u body x.0 is) ∙ w in
        subst (λ (r : Result Wish ℕ). Judged n close r (drop used bytes ++ rest) c) (sym b) e

    go : BodyServes m route close (bytes ++ rest) c → Judged n close (wish_of route n.body.body) (drop used bytes ++ rest) c
    go (stops ending s e) = refuses ending s e
    go (whole i body wish (u, feeds, is) w j) =
        let x = ended_only m.body n.body u bytes rest (Done used) (Done i) (done_not_more used) first feeds in
        let b : wish_of route n.body.body ≡ Ok wish = ap (wish_of route) (same_body u body x.0 is) ∙ w in
        let place : drop i (bytes ++ rest) ≡ drop used bytes ++ rest = ap (λ (k : ℕ). drop k (bytes ++ rest)) (sym (done_same used i x.1)) ∙ drop_here bytes rest used within in
        subst (λ (r : Result Wish ℕ). Judged n close r (drop used bytes ++ rest) c) (sym b)
        (judged (Ok wish) (subst (λ (l : List ℕ). Judged m close (Ok wish) l c) place j))

pub bad_tracks : (m n : Machine) (t : Reading) (route : Route) (close : Bool) (bytes : List ℕ) (status : ℕ) → Feeds m.body bytes t (Bad status) → IsRefusing status n
    → TracksInBody m route close bytes n
bad_tracks m n t route close bytes status first refusing rest c serves = go serves
  where
    stopped : (ending : Ending) → StopsInBody route m.body (bytes ++ rest) ending → c ≡ ending_course ending → Future n rest c
    stopped ending (open_body u feeds) e = absurd (bad_not_more status (ended_only m.body t u bytes rest (Bad status) More (bad_not_more status) first feeds).1)
    stopped ending (bad_body u other feeds) e =
        let x = ended_only m.body t u bytes rest (Bad status) (Bad other) (bad_not_more status) first feeds in
        future_refused status n rest c refusing (e ∙ ap (λ (k : ℕ). ending_course (refused k)) (sym (bad_same status other x.1)))
    stopped ending (bad_envelope i other body (u, feeds, is) w) e =
        absurd (done_not_bad i status (sym (ended_only m.body t u bytes rest (Bad status) (Done i) (bad_not_more status) first feeds).1))

    go : BodyServes m route close (bytes ++ rest) c → Future n rest c
    go (stops ending s e) = stopped ending s e
    go (whole i body wish (u, feeds, is) w j) =
        absurd (done_not_bad i status (sym (ended_only m.body t u bytes rest (Bad status) (Done i) (bad_not_more status) first feeds).1))
