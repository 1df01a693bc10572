-- How turns join, and what they come to.
use Rattle.std.proofs.Common.{◌≡◌, ℕ, List, [], ◌∷◌, ◌++◌, drop, Option, Some, None, refl, sym, ap, subst, ◌∙◌, append_assoc}
use Rattle.std.specs.Prelude.{set}
use Rattle.std.proofs.lemmas.List.{append-nil}
use Rattle.std.specs.Io.KnownBytes.{Appends}
use Rattle.std.proofs.KnownBytes.{Consumes-nil, Consumes-trans, Appends-nil, Appends-trans}
use Rattle.session_loop.specs.Cutting.{Request, Ending, Cut}
use Rattle.session_loop.specs.Courses.{Course, ends, Event, wrote, told, made, counted, PassesAll, course, text_of, moments_of}
use Rattle.session_loop.specs.Documents.{Kept}
use Rattle.session_loop.specs.Driving.{View, TellsEach, Tells, Happens, Passed, Served, Drives, read_failed, write_failed, no_memory, Went, Stops, over, read_fault, write_fault, wanting, came_to_end, closed, at_end}
use Rattle.session_loop.specs.Sessions.{Machine, IsFresh, Serves, Future, FutureAt, Leads, Tracks, LeadsBy, TracksBy}
use Rattle.session_loop.specs.declared.stage.Stage.{Stage}
use Rattle.session_loop.specs.declared.want.SessionEnd.{SessionEnd}
use Rattle.session_loop.proofs.CourseEnds.{served_end}

-- ---- what can come

pub went_over : (m n : Machine) (piece : List ℕ) → Leads m piece n → Tracks m piece n → Went m piece [] n
went_over m n piece leads tracks = record {
  leads = λ rest d future. (d, leads rest d future, refl);
  tracks = λ rest c future. (c, tracks rest c future, refl);
}

pub went_by : (m n : Machine) (event : Event) → LeadsBy m event n → TracksBy m event n → Went m [] (event ∷ []) n
went_by m n event leads tracks = record {
  leads = λ rest d future. let x = leads rest d future in (x.0, x.1, (d, x.2, refl));
  tracks = λ rest c future. let x = tracks rest c future in (x.0, x.1, (x.0, x.2, refl));
}

pub went_nowhere : (m : Machine) → Went m [] [] m
went_nowhere m = record { leads = λ rest d future. (d, future, refl); tracks = λ rest c future. (c, future, refl) }

pub passes_join : (e f : List Event) (c m d : Course) → PassesAll c e m → PassesAll m f d → PassesAll c (e ++ f) d
passes_join [] f c m d first second = subst (λ (x : Course). PassesAll x f d) first second
passes_join (x ∷ e) f c m d (n, passes, first) second = (n, passes, passes_join e f n m d first second)

pub went_on : (l m n : Machine) (a b : List ℕ) (e f : List Event) → Went l a e m → Went m b f n → Went l (a ++ b) (e ++ f) n
went_on l m n a b e f first second = record {
  leads = λ rest d future.
      let x = second.leads rest d future in
      let y = first.leads (b ++ rest) x.0 x.1 in
      (y.0, subst (λ (bytes : List ℕ). Future l bytes y.0) (sym (append_assoc a b rest)) y.1, passes_join e f y.0 x.0 d y.2 x.2);
  tracks = λ rest c future.
      let x = first.tracks (b ++ rest) c (subst (λ (bytes : List ℕ). Future l bytes c) (append_assoc a b rest) future) in
      let y = second.tracks rest x.0 x.1 in
      (y.0, y.1, passes_join e f c x.0 y.0 x.2 y.2);
}

-- ---- what happens outside

text_join : (e f : List Event) → text_of (e ++ f) ≡ text_of e ++ text_of f
text_join [] f = refl
text_join (wrote text ∷ e) f = ap (λ (l : List ℕ). text ++ l) (text_join e f) ∙ sym (append_assoc text (text_of e) (text_of f))
text_join (told moment ∷ e) f = text_join e f
text_join (made doc call submitted ∷ e) f = text_join e f
text_join (counted doc count ∷ e) f = text_join e f

moments_join : (e f : List Event) → moments_of (e ++ f) ≡ moments_of e ++ moments_of f
moments_join [] f = refl
moments_join (wrote text ∷ e) f = moments_join e f
moments_join (told moment ∷ e) f = ap (λ (l : List ℕ). moment ∷ l) (moments_join e f)
moments_join (made doc call submitted ∷ e) f = moments_join e f
moments_join (counted doc count ∷ e) f = moments_join e f

tells_each_join : (a b : List ℕ) (x y z : List ℕ) → TellsEach x a y → TellsEach y b z → TellsEach x (a ++ b) z
tells_each_join [] b x y z first second = subst (λ (l : List ℕ). TellsEach l b z) first second
tells_each_join (moment ∷ a) b x y z first second = (first.0, tells_each_join a b (drop 1 x) y z first.1 second)

tells_join : (a b : List ℕ) (x y z : Option (List ℕ)) → Tells x y a → Tells y z b → Tells x z (a ++ b)
tells_join a b None y z first second = tt
tells_join a b (Some x) None z first second = absurd first
tells_join a b (Some x) (Some y) None first second = absurd second
tells_join a b (Some x) (Some y) (Some z) first second = tells_each_join a b x y z first second

pub tells_nothing : (x : Option (List ℕ)) → Tells x x []
tells_nothing None = tt
tells_nothing (Some x) = refl

happens_join : (e f : List Event) (x y z : List Kept) → Happens x e y → Happens y f z → Happens x (e ++ f) z
happens_join [] f x y z first second = subst (λ (l : List Kept). Happens l f z) first second
happens_join (wrote text ∷ e) f x y z first second = happens_join e f x y z first second
happens_join (told moment ∷ e) f x y z first second = happens_join e f x y z first second
happens_join (made doc call submitted ∷ e) f x y z (k, n, at, lone, is, first) second = (k, n, at, lone, is, happens_join e f (set x doc n) y z first second)
happens_join (counted doc count ∷ e) f x y z (k, at, is, first) second = (k, at, is, happens_join e f x y z first second)

pub passed_on : (u v w : View) (a b : List ℕ) (e f : List Event) → Passed u v a e → Passed v w b f → Passed u w (a ++ b) (e ++ f)
passed_on u v w a b e f first second = record {
  left = Consumes-trans u.left v.left w.left a b first.left second.left;
  read_faults = second.read_faults ∙ first.read_faults;
  held = subst (λ (l : List ℕ). Appends u.held w.held l) (sym (text_join e f)) (Appends-trans u.held v.held w.held (text_of e) (text_of f) first.held second.held);
  write_faults = second.write_faults ∙ first.write_faults;
  told = subst (λ (l : List ℕ). Tells u.told w.told l) (sym (moments_join e f)) (tells_join (moments_of e) (moments_of f) u.told v.told w.told first.told second.told);
  docs = happens_join e f u.docs v.docs w.docs first.docs second.docs;
}

pub nothing_passed : (v : View) → Passed v v [] []
nothing_passed v = record { left = Consumes-nil v.left; read_faults = refl; held = Appends-nil v.held; write_faults = refl; told = tells_nothing v.told; docs = refl }

-- ---- from the first byte on

module _ (names : List (List ℕ)) (fresh m : Machine) (is : IsFresh names fresh) (bytes : List ℕ) (events : List Event) (went : Went fresh bytes events m) where
  -- a fresh session serves the bytes from the first on
  serves : (l : List ℕ) (c : Course) → Future fresh l c → Serves names 10_000 l c
  serves l c future = rw (is.names_are, is.left, is.stage, is.input) at future

  futures : (l : List ℕ) (c : Course) → Serves names 10_000 l c → Future fresh l c
  futures l c h =
      subst (λ (st : Stage). FutureAt st fresh l c) (sym is.stage)
      (subst (λ (input : List ℕ). Serves fresh.names fresh.left (input ++ l) c) (sym is.input)
      (subst (λ (left : ℕ). Serves fresh.names left l c) (sym is.left)
      (subst (λ (ns : List (List ℕ)). Serves ns 10_000 l c) (sym is.names_are) h)))

  end_served : (rest : List ℕ) (end : SessionEnd) → Future m rest (ends end) → Served names (bytes ++ rest) events end
  end_served rest end future =
      let x = went.leads rest (ends end) future in
      let s = serves (bytes ++ rest) x.0 x.1 in
      record { requests = s.0; ending = s.1; cut = s.2; takes = subst (λ (c : Course). PassesAll c events (ends end)) s.3 x.2 }

  so_far : (more : List ℕ) (requests : List Request) (ending : Ending) → Cut names 10_000 (bytes ++ more) requests ending
      → (d : Course) × Future m more d × PassesAll (course names 10_000 requests ending) events d
  so_far more requests ending cut =
      went.tracks more (course names 10_000 requests ending) (futures (bytes ++ more) (course names 10_000 requests ending) (requests, ending, cut, refl))

  still_passed : (u v w : View) → Passed u v bytes events → Passed v w [] [] → Passed u w bytes events
  still_passed u v w passed still =
      subst (λ (l : List ℕ). Passed u w l events) (append-nil bytes) (subst (λ (e : List Event). Passed u w (bytes ++ []) e) (append-nil events) (passed_on u v w bytes [] events [] passed still))

  pub drives : (u v w : View) (end : SessionEnd) → Passed u v bytes events → Stops v w m end → Drives names u w end
  drives u v w _ passed (at_end end still none_left source future) =
      came_to_end end bytes events (still_passed u v w passed still) none_left source
      (subst (λ (l : List ℕ). Served names l events end) (append-nil bytes) (end_served [] end future))
  drives u v w _ passed (over end still future) =
      closed end bytes events (still_passed u v w passed still) (served_end names (bytes ++ []) events end (end_served [] end (future [])))
      (λ more. end_served more end (future more))
  drives u v w _ passed (read_fault end fails source future) =
      read_failed v end bytes events passed fails source
      (subst (λ (l : List ℕ). Served names l events end) (append-nil bytes) (end_served [] end future))
  drives u v w _ passed (write_fault text fails writing) =
      write_failed v text bytes events passed fails
      (λ more requests ending cut. let x = so_far more requests ending cut in (x.0, x.2, writing more x.0 x.1))
  drives u v w _ passed (wanting b e further goes) =
      no_memory (bytes ++ b) (events ++ e) (passed_on u v w bytes b events e passed further)
      (λ more requests ending cut.
      let x = so_far (b ++ more) requests ending (subst (λ (l : List ℕ). Cut names 10_000 l requests ending) (append_assoc bytes b more) cut) in
      let y = goes more x.0 x.1 in
      (y.0, passes_join events e (course names 10_000 requests ending) x.0 y.0 x.2 y.1, tt))
