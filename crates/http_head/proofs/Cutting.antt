-- However a body is cut into pieces, what is made of it is what the whole makes.
use Rattle.std.proofs.Common.{◌≡◌, ◌≢◌, ◌⊎◌, ◌<◌, ◌≤◌, ◌+◌, ◌-◌, ℕ, List, [], ◌∷◌, ◌++◌, length, take, drop, Some, None, arith, ap, sym, subst, refl, ◌∙◌, inl, inr}
use Rattle.std.proofs.Math.Seq.{take-add, take-append-add}
use Rattle.std.proofs.lemmas.Grind.{common_steps}
use Rattle.std.proofs.lemmas.List.{take-append-le}
use Rattle.std.specs.declared.option.Option.{Option}
use Rattle.std.specs.List.{concat}
use Rattle.http_head.specs.declared.body.Place.{Place}
use Rattle.http_head.specs.declared.body.Place.TheVariants.{Counted, Line, Chunk, ChunkReturn, ChunkFeed, LastReturn, LastFeed, Whole, Malformed, TooLarge}
use Rattle.http_head.specs.declared.body.Fed.{Fed}
use Rattle.http_head.specs.declared.body.Fed.TheVariants.{More, Done, Bad}
use Rattle.http_head.specs.Bodies.{Reading, StepAt, Goes, Feeds, Settles, settled, IsOpen}
use Rattle.http_head.specs.Cutting.{behind, FeedsEach}
use Rattle.http_head.proofs.Goings.{Goes-append}
use Rattle.http_head.proofs.OneReading.{goings_are_one, goings_cut}
use Rattle.http_head.proofs.Settling.{Settles-feeds, none_is, more_is, open_there}

-- the outcome at a place
abbrev outcome_of : Option Fed → Fed
outcome_of None = More
outcome_of (Some fed) = fed

abbrev outcome : Place → ℕ → Fed
outcome place used = outcome_of (settled place used)

shifted : (place : Place) (before used : ℕ) → outcome place (before + used) ≡ behind before (outcome place used)
shifted (Counted left) before used = refl
shifted Line before used = refl
shifted (Chunk left) before used = refl
shifted ChunkReturn before used = refl
shifted ChunkFeed before used = refl
shifted LastReturn before used = refl
shifted LastFeed before used = refl
shifted Whole before used = refl
shifted Malformed before used = refl
shifted TooLarge before used = refl

open_everywhere : (place : Place) (used : ℕ) → IsOpen place → settled place used ≡ None
open_everywhere (Counted left) used e = refl
open_everywhere Line used e = refl
open_everywhere (Chunk left) used e = refl
open_everywhere ChunkReturn used e = refl
open_everywhere ChunkFeed used e = refl
open_everywhere LastReturn used e = refl
open_everywhere LastFeed used e = refl
open_everywhere Whole used e = absurd (none_is _ (sym e))
open_everywhere Malformed used e = absurd (none_is _ (sym e))
open_everywhere TooLarge used e = absurd (none_is _ (sym e))

-- where a byte is taken the body goes on
open_at : (place : Place) (s t : Reading) (byte : ℕ) → StepAt place s byte t → IsOpen place
open_at (Counted left) s t byte step = refl
open_at Line s t byte step = refl
open_at (Chunk left) s t byte step = refl
open_at ChunkReturn s t byte step = refl
open_at ChunkFeed s t byte step = refl
open_at LastReturn s t byte step = refl
open_at LastFeed s t byte step = refl
open_at Whole s t byte step = absurd step
open_at Malformed s t byte step = absurd step
open_at TooLarge s t byte step = absurd step

open_before : (bytes : List ℕ) (m t : Reading) → 0 < length bytes → Goes m bytes t → IsOpen m.place
open_before [] m t some goes = absurd (omega arith)
open_before (byte ∷ bytes) m t some (n, step, rest) = open_at m.place m n byte step

open_through : (bytes : List ℕ) (m t : Reading) → Goes m bytes t → IsOpen t.place → IsOpen m.place
open_through [] m t goes is = subst (λ (r : Reading). IsOpen r.place) goes is
open_through (byte ∷ bytes) m t (n, step, rest) is = open_at m.place m n byte step

-- what a piece makes of a body, said for all outcomes at once: it is taken up to where the body doesn't go on
record Stops (s : Reading) (bytes : List ℕ) (t : Reading) (fed : Fed) : Type 0 where
  pub used : ℕ
  pub within : used ≤ length bytes
  pub goes : Goes s (take used bytes) t
  pub all : IsOpen t.place → used ≡ length bytes
  pub answer : fed ≡ outcome t.place used

take_all : (bytes : List ℕ) → take (length bytes) bytes ≡ bytes
take_all bytes = grind (arith, common_steps)

settles_stops : (s t : Reading) (bytes : List ℕ) (used : ℕ) (fed : Fed) → Settles s bytes used t fed → Stops s bytes t fed
settles_stops s t bytes used fed x = record {
  used = used;
  within = x.within;
  goes = x.goes;
  all = λ is. absurd (none_is fed (sym (open_everywhere t.place used is) ∙ x.answer));
  answer = sym (ap outcome_of x.answer);
}

feeds_stop : (s t : Reading) (bytes : List ℕ) (fed : Fed) → Feeds s bytes t fed → Stops s bytes t fed
feeds_stop s t bytes More x = record {
  used = length bytes;
  within = omega arith;
  goes = subst (λ (l : List ℕ). Goes s l t) (sym (take_all bytes)) x.1;
  all = λ _. refl;
  answer = sym (ap outcome_of (open_everywhere t.place (length bytes) x.0));
}
feeds_stop s t bytes (Done used) x = settles_stops s t bytes used (Done used) x
feeds_stop s t bytes (Bad status) x = settles_stops s t bytes x.0 (Bad status) x.1

stops_feed_as : (answer : Option Fed) (s t : Reading) (bytes : List ℕ) (fed : Fed) (x : Stops s bytes t fed)
    → settled t.place x.used ≡ answer → Feeds s bytes t fed
stops_feed_as None s t bytes fed x is =
    let there : IsOpen t.place = open_there t.place x.used is in
    subst (Feeds s bytes t) (sym (x.answer ∙ ap outcome_of is))
    (there, subst (λ (l : List ℕ). Goes s l t) (ap (λ (n : ℕ). take n bytes) (x.all there) ∙ take_all bytes) x.goes)
stops_feed_as (Some told) s t bytes fed x is =
    subst (Feeds s bytes t) (sym (x.answer ∙ ap outcome_of is)) (Settles-feeds s t bytes x.used told x.within x.goes is)

stops_feed : (s t : Reading) (bytes : List ℕ) (fed : Fed) → Stops s bytes t fed → Feeds s bytes t fed
stops_feed s t bytes fed x = stops_feed_as (settled t.place x.used) s t bytes fed x refl

-- one outcome
order : (i j : ℕ) → (i ≤ j) ⊎ (j ≤ i)
order i j = grind (arith, common_steps)

empty_or_not : (l : List ℕ) → (l ≡ []) ⊎ (0 < length l)
empty_or_not [] = inl refl
empty_or_not (byte ∷ l) = inr (omega arith)

length_of_run : (bytes : List ℕ) (i d : ℕ) → i + d ≤ length bytes → length (take d (drop i bytes)) ≡ d
length_of_run bytes i d within = grind (arith, common_steps)

record AreOne (t u : Reading) (i j : ℕ) : Type 0 where
  pub readings : t ≡ u
  pub places : i ≡ j

one_stop_on : (s t u m : Reading) (bytes : List ℕ) (i d : ℕ) → (IsOpen t.place → i ≡ length bytes) → i + d ≤ length bytes
    → m ≡ t → Goes m (take d (drop i bytes)) u → (take d (drop i bytes) ≡ []) ⊎ (0 < length (take d (drop i bytes)))
    → AreOne t u i (i + d)
one_stop_on s t u m bytes i d all within is goes (inl none) = record {
  readings = sym is ∙ sym (subst (λ (l : List ℕ). Goes m l u) none goes);
  places = let few : d ≡ 0 = sym (length_of_run bytes i d within) ∙ ap length none in omega (arith, few);
}
one_stop_on s t u m bytes i d all within is goes (inr some) =
    let there : IsOpen t.place = subst (λ (r : Reading). IsOpen r.place) is (open_before (take d (drop i bytes)) m u some goes) in
    let whole : i ≡ length bytes = all there in
    let more : 0 < d = subst (λ (n : ℕ). 0 < n) (length_of_run bytes i d within) some in
    absurd (omega (arith, whole, more, within))

one_stop : (s t u : Reading) (bytes : List ℕ) (i d : ℕ) → (IsOpen t.place → i ≡ length bytes) → i + d ≤ length bytes
    → Goes s (take i bytes) t → Goes s (take (i + d) bytes) u → AreOne t u i (i + d)
one_stop s t u bytes i d all within first second =
    let c = goings_cut (take i bytes) (take d (drop i bytes)) s u (subst (λ (l : List ℕ). Goes s l u) (take-add i d bytes) second) in
    one_stop_on s t u c.0 bytes i d all within (goings_are_one (take i bytes) s c.0 t c.1 first) c.2
    (empty_or_not (take d (drop i bytes)))

split_at : (i j : ℕ) → i ≤ j → j ≡ i + (j - i)
split_at i j less = omega arith

one_of : (s t u : Reading) (bytes : List ℕ) (i j : ℕ) → i ≤ j → (IsOpen t.place → i ≡ length bytes) → j ≤ length bytes
    → Goes s (take i bytes) t → Goes s (take j bytes) u → AreOne t u i j
one_of s t u bytes i j less all within first second =
    let e : j ≡ i + (j - i) = split_at i j less in
    let r = one_stop s t u bytes i (j - i) all (omega (arith, within)) first (subst (λ (n : ℕ). Goes s (take n bytes) u) e second) in
    record { readings = r.readings; places = r.places ∙ sym e }

pub outcomes_are_one : (s t u : Reading) (bytes : List ℕ) (fed told : Fed) → Feeds s bytes t fed → Feeds s bytes u told → (t ≡ u) × (fed ≡ told)
outcomes_are_one s t u bytes fed told x y =
    let a = feeds_stop s t bytes fed x in
    let b = feeds_stop s u bytes told y in
    same_of a b (order a.used b.used)
  where
    same : (a : Stops s bytes t fed) (b : Stops s bytes u told) → t ≡ u → a.used ≡ b.used → (t ≡ u) × (fed ≡ told)
    same a b is places = (is, a.answer ∙ ap (λ (r : Reading). outcome r.place a.used) is ∙ ap (outcome u.place) places ∙ sym b.answer)

    same_of : (a : Stops s bytes t fed) (b : Stops s bytes u told) → (a.used ≤ b.used) ⊎ (b.used ≤ a.used) → (t ≡ u) × (fed ≡ told)
    same_of a b (inl less) = let r = one_of s t u bytes a.used b.used less a.all b.within a.goes b.goes in same a b r.readings r.places
    same_of a b (inr less) = let r = one_of s u t bytes b.used a.used less b.all a.within b.goes a.goes in same a b (sym r.readings) (sym r.places)

-- a piece that ends the body ends it whatever follows
closed_not_more : (s t : Reading) (bytes : List ℕ) (fed : Fed) → Stops s bytes t fed → fed ≢ More → IsOpen t.place → ⊥
closed_not_more s t bytes fed x other there = other (x.answer ∙ ap outcome_of (open_everywhere t.place x.used there))

ended_first : (s t : Reading) (a b : List ℕ) (fed : Fed) → Stops s a t fed → fed ≢ More → Stops s (a ++ b) t fed
ended_first s t a b fed x other = record {
  used = x.used;
  within = let w = x.within in grind (arith, common_steps, w);
  goes = subst (λ (l : List ℕ). Goes s l t) (sym (take-append-le x.used a b x.within)) x.goes;
  all = λ there. absurd (closed_not_more s t a fed x other there);
  answer = x.answer;
}

ended_later : (s m t : Reading) (a b : List ℕ) (fed rest : Fed) → Goes s a m → Stops m b t rest → fed ≡ behind (length a) rest
    → Stops s (a ++ b) t fed
ended_later s m t a b fed rest first x is = record {
  used = length a + x.used;
  within = let w = x.within in grind (arith, common_steps, w);
  goes = subst (λ (l : List ℕ). Goes s l t) (sym (take-append-add a b x.used)) (Goes-append s m t a (take x.used b) first x.goes);
  all = λ there. let e = x.all there in grind (arith, common_steps, e);
  answer = is ∙ ap (behind (length a)) x.answer ∙ sym (shifted t.place (length a) x.used);
}

-- the cut falls behind the end, or before it
record Later (s t : Reading) (a b : List ℕ) (fed : Fed) : Type 0 where
  pub middle : Reading
  pub rest : Fed
  pub there : IsOpen middle.place
  pub first : Goes s a middle
  pub second : Stops middle b t rest
  pub answer : fed ≡ behind (length a) rest

open_in : (m t : Reading) (b : List ℕ) (d : ℕ) → (0 < length (take d b)) ⊎ IsOpen t.place → Goes m (take d b) t → IsOpen m.place
open_in m t b d (inl some) goes = open_before (take d b) m t some goes
open_in m t b d (inr there) goes = open_through (take d b) m t goes there

later : (s t : Reading) (a b : List ℕ) (fed : Fed) (d : ℕ) → d ≤ length b → Goes s (take (length a + d) (a ++ b)) t
    → (0 < length (take d b)) ⊎ IsOpen t.place → (IsOpen t.place → length a + d ≡ length (a ++ b)) → fed ≡ outcome t.place (length a + d)
    → Later s t a b fed
later s t a b fed d within goes some all answer =
    let c = goings_cut a (take d b) s t (subst (λ (l : List ℕ). Goes s l t) (take-append-add a b d) goes) in
    record {
      middle = c.0;
      rest = outcome t.place d;
      there = open_in c.0 t b d some c.2;
      first = c.1;
      second = record { used = d; within = within; goes = c.2; all = λ there. let e = all there in grind (arith, common_steps, e); answer = refl };
      answer = answer ∙ shifted t.place (length a) d;
    }

-- where it is open it is not ended
is_open_or_not : (place : Place) → IsOpen place ⊎ (IsOpen place → ⊥)
is_open_or_not (Counted left) = inl refl
is_open_or_not Line = inl refl
is_open_or_not (Chunk left) = inl refl
is_open_or_not ChunkReturn = inl refl
is_open_or_not ChunkFeed = inl refl
is_open_or_not LastReturn = inl refl
is_open_or_not LastFeed = inl refl
is_open_or_not Whole = inr (λ e. none_is _ (sym e))
is_open_or_not Malformed = inr (λ e. none_is _ (sym e))
is_open_or_not TooLarge = inr (λ e. none_is _ (sym e))

not_more : (place : Place) (used : ℕ) (answer : Option Fed) → settled place used ≡ answer → (IsOpen place → ⊥) → outcome place used ≢ More
not_more place used None is closed e = closed (open_there place used is)
not_more place used (Some fed) is closed e = more_is place used (is ∙ ap Some (sym (ap outcome_of is) ∙ e))

before_or_behind : (used n : ℕ) → (used ≤ n) ⊎ (n < used)
before_or_behind used n = grind (arith, common_steps)

at_later : (s t : Reading) (a b : List ℕ) (fed : Fed) (x : Stops s (a ++ b) t fed) → length a ≤ x.used
    → (length a < x.used) ⊎ IsOpen t.place → Later s t a b fed
at_later s t a b fed x past some =
    let e : x.used ≡ length a + (x.used - length a) = split_at (length a) x.used past in
    let both : length (a ++ b) ≡ length a + length b = grind (arith, common_steps) in
    let w : x.used ≤ length (a ++ b) = x.within in
    let few : x.used - length a ≤ length b = omega (arith, both, w) in
    later s t a b fed (x.used - length a) few
    (subst (λ (n : ℕ). Goes s (take n (a ++ b)) t) e x.goes)
    (some_of some few)
    (λ there. sym e ∙ x.all there)
    (x.answer ∙ ap (outcome t.place) e)
  where
    run_of : (d : ℕ) → d ≤ length b → length (take d b) ≡ d
    run_of d few = grind (arith, common_steps)

    some_of : (length a < x.used) ⊎ IsOpen t.place → x.used - length a ≤ length b → (0 < length (take (x.used - length a) b)) ⊎ IsOpen t.place
    some_of (inl more) few = inl (let r = run_of (x.used - length a) few in omega (arith, r, more))
    some_of (inr there) few = inr there

cut_stop_at : (s t : Reading) (a b : List ℕ) (fed : Fed) (x : Stops s (a ++ b) t fed) → (x.used ≤ length a) ⊎ (length a < x.used)
    → IsOpen t.place ⊎ (IsOpen t.place → ⊥) → (Stops s a t fed × (fed ≢ More)) ⊎ Later s t a b fed
cut_stop_at s t a b fed x (inl within) (inl there) =
    let e : x.used ≡ length (a ++ b) = x.all there in
    let both : length (a ++ b) ≡ length a + length b = grind (arith, common_steps) in
    inr (at_later s t a b fed x (omega (arith, e, both)) (inr there))
cut_stop_at s t a b fed x (inl within) (inr closed) = inl (
  record {
    used = x.used;
    within = within;
    goes = subst (λ (l : List ℕ). Goes s l t) (take-append-le x.used a b within) x.goes;
    all = λ there. absurd (closed there);
    answer = x.answer;
  },
  λ is. not_more t.place x.used (settled t.place x.used) refl closed (sym x.answer ∙ is),
)
cut_stop_at s t a b fed x (inr past) there = inr (at_later s t a b fed x (omega (arith, past)) (inl past))

cut_stop : (s t : Reading) (a b : List ℕ) (fed : Fed) → Stops s (a ++ b) t fed → (Stops s a t fed × (fed ≢ More)) ⊎ Later s t a b fed
cut_stop s t a b fed x = cut_stop_at s t a b fed x (before_or_behind x.used (length a)) (is_open_or_not t.place)

pub each_as_whole : (pieces : List (List ℕ)) (s t : Reading) (fed : Fed) → FeedsEach s pieces t fed → Feeds s (concat pieces) t fed
each_as_whole [] s t fed x = x
each_as_whole (piece ∷ pieces) s t fed (inl (x, other)) =
    stops_feed s t _ fed (ended_first s t piece (concat pieces) fed (feeds_stop s t piece fed x) other)
each_as_whole (piece ∷ pieces) s t fed (inr (m, rest, x, y, is)) =
    stops_feed s t _ fed (ended_later s m t piece (concat pieces) fed rest x.1 (feeds_stop m t _ rest (each_as_whole pieces m t rest y)) is)

cut_of : (piece : List ℕ) (pieces : List (List ℕ)) (s t : Reading) (fed : Fed)
    → ((m : Reading) (rest : Fed) → Feeds m (concat pieces) t rest → FeedsEach m pieces t rest)
    → (Stops s piece t fed × (fed ≢ More)) ⊎ Later s t piece (concat pieces) fed → FeedsEach s (piece ∷ pieces) t fed
cut_of piece pieces s t fed again (inl (x, other)) = inl (stops_feed s t piece fed x, other)
cut_of piece pieces s t fed again (inr x) =
    inr (x.middle, x.rest, (x.there, x.first), again x.middle x.rest (stops_feed x.middle t (concat pieces) x.rest x.second), x.answer)

pub whole_as_each : (pieces : List (List ℕ)) (s t : Reading) (fed : Fed) → Feeds s (concat pieces) t fed → FeedsEach s pieces t fed
whole_as_each [] s t fed x = x
whole_as_each (piece ∷ pieces) s t fed x =
    cut_of piece pieces s t fed (λ m rest. whole_as_each pieces m t rest) (cut_stop s t piece (concat pieces) fed (feeds_stop s t _ fed x))
