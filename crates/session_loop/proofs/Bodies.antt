-- Bodies that come in two parts.
use Rattle.std.proofs.Common.{◌≡◌, ◌≢◌, ◌≤◌, ◌⊎◌, inl, inr, ℕ, ◌+◌, List, [], ◌∷◌, ◌++◌, length, take, drop, refl, sym, ap, subst, ◌∙◌}
use Rattle.std.proofs.lemmas.List.{append-nil, drop_at, drop-drop, take-append-le, drop-append-le}
use Rattle.std.specs.List.{concat}
use Rattle.http_head.specs.Bodies.{Reading, Feeds}
use Rattle.http_head.specs.Cutting.{behind}
use Rattle.http_head.specs.declared.body.Fed.{Fed}
use Rattle.http_head.specs.declared.body.Fed.TheVariants.{More, Done, Bad}
use Rattle.http_head.specs.declared.target.Route.{Route}
use Rattle.http_head.proofs.Cutting.{each_as_whole, whole_as_each}
use Rattle.session_loop.specs.Cutting.{Ending, refused, IsBody, StopsInBody, open_body, bad_body, bad_envelope}
use Rattle.session_loop.specs.Rooms.{later}

-- ---- two parts

nil : (b : List ℕ) → concat (b ∷ []) ≡ b
nil b = append-nil b

nil_too : (a b : List ℕ) → concat (a ∷ b ∷ []) ≡ a ++ b
nil_too a b = ap (λ (l : List ℕ). a ++ l) (nil b)

pub feeds_ended : (s t : Reading) (a b : List ℕ) (fed : Fed) → fed ≢ More → Feeds s a t fed → Feeds s (a ++ b) t fed
feeds_ended s t a b fed ne feeds =
    subst (λ (l : List ℕ). Feeds s l t fed) (nil_too a b) (each_as_whole (a ∷ b ∷ []) s t fed (inl (feeds, ne)))

pub feeds_later : (s m t : Reading) (a b : List ℕ) (fed : Fed) → Feeds s a m More → Feeds m b t fed → Feeds s (a ++ b) t (behind (length a) fed)
feeds_later s m t a b fed first second =
    subst (λ (l : List ℕ). Feeds s l t (behind (length a) fed)) (nil_too a b)
    (each_as_whole (a ∷ b ∷ []) s t (behind (length a) fed)
    (inr (m, fed, first, whole_as_each (b ∷ []) m t fed (subst (λ (l : List ℕ). Feeds m l t fed) (sym (nil b)) second), refl)))

-- the outcome comes in the first part, or behind it
pub record Behind (s t : Reading) (a b : List ℕ) (fed : Fed) : Type 0 where
  pub middle : Reading
  pub rest : Fed
  pub first : Feeds s a middle More
  pub second : Feeds middle b t rest
  pub is : fed ≡ behind (length a) rest

pub feeds_cut : (s t : Reading) (a b : List ℕ) (fed : Fed) → Feeds s (a ++ b) t fed → (Feeds s a t fed × (fed ≢ More)) ⊎ Behind s t a b fed
feeds_cut s t a b fed feeds =
    elim (whole_as_each (a ∷ b ∷ []) s t fed (subst (λ (l : List ℕ). Feeds s l t fed) (sym (nil_too a b)) feeds)) [
      | inl here ↦ inl here
      | inr later ↦ inr (record {
        middle = later.0;
        rest = later.1;
        first = later.2;
        second = subst (λ (l : List ℕ). Feeds later.0 l t later.1) (nil b) (each_as_whole (b ∷ []) later.0 t later.1 later.3);
        is = later.4;
      })
    ]

done_not_more : (used : ℕ) → ◌≡◌ {A = Fed} (Done used) More → ⊥
done_not_more used e = cc

bad_not_more : (status : ℕ) → ◌≡◌ {A = Fed} (Bad status) More → ⊥
bad_not_more status e = cc

-- ---- a body that goes on

pub body_later : (s t : Reading) (a b : List ℕ) (used : ℕ) (body : List ℕ) → Feeds s a t More → IsBody t b used body → IsBody s (a ++ b) (length a + used) body
body_later s t a b used body first (u, feeds, is) = (u, feeds_later s t u a b (Done used) first feeds, is)

pub body_here : (s t : Reading) (a b : List ℕ) (used : ℕ) → Feeds s a t (Done used) → IsBody s (a ++ b) used t.body
body_here s t a b used feeds = (t, feeds_ended s t a b (Done used) (done_not_more used) feeds, refl)

pub stops_later : (route : Route) (s t : Reading) (a b : List ℕ) (ending : Ending) → Feeds s a t More → StopsInBody route t b ending → StopsInBody route s (a ++ b) ending
stops_later route s t a b ending first (open_body u feeds) = open_body u (feeds_later s t u a b More first feeds)
stops_later route s t a b ending first (bad_body u status feeds) = bad_body u status (feeds_later s t u a b (Bad status) first feeds)
stops_later route s t a b ending first (bad_envelope used status body is wish) = bad_envelope (length a + used) status body (body_later s t a b used body first is) wish

pub stops_here : (route : Route) (s t : Reading) (a b : List ℕ) (status : ℕ) → Feeds s a t (Bad status) → StopsInBody route s (a ++ b) (refused status)
stops_here route s t a b status feeds = bad_body t status (feeds_ended s t a b (Bad status) (bad_not_more status) feeds)

-- ---- places

pub drop_later : (a b : List ℕ) (used : ℕ) → drop (length a + used) (a ++ b) ≡ drop used b
drop_later a b used = sym (drop-drop used (length a) (a ++ b)) ∙ ap (drop used) (drop_at a b (length a) refl)

pub drop_here : (a b : List ℕ) (used : ℕ) → used ≤ length a → drop used (a ++ b) ≡ drop used a ++ b
drop_here a b used within = drop-append-le used a b within

pub take_here : (a b : List ℕ) (used : ℕ) → used ≤ length a → take used (a ++ b) ≡ take used a
take_here a b used within = take-append-le used a b within
