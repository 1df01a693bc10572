-- It can't be that bytes are cut in no way. A head or a chunk line is read where it is in the grammar of the parser, and
-- there is no way of telling whether it is but by reading it; so the law is about what can't be.
use Rattle.std.proofs.Common.{◌≡◌, ◌⊎◌, ◌<◌, ◌≤◌, ◌+◌, ◌-◌, ℕ, zero, suc, List, [], ◌∷◌, ◌++◌, length, take, drop, map, Bool, true, false, IsTrue, Result, Ok, Err, Option, Some, None, nat_eq, arith, ap, sym, subst, refl, ◌∙◌, inl, inr}
use Rattle.std.proofs.lemmas.Grind.{common_steps}
use Rattle.std.specs.List.{list_any}
use Rattle.httparse.specs.Ascii.{line_feed}
use Rattle.httparse.specs.Grammar.{chunk_size}
use Rattle.httparse.specs.Spans.{name_and_value}
use Rattle.http_head.specs.Heads.{is_text, ends_head, HasNoHeadEnd, IsHeadOf}
use Rattle.http_head.specs.Requests.{Parts, ReadsHead, judge}
use Rattle.http_head.specs.Bodies.{Reading, fresh, IsSizeOf, LineStep, after_line, inside_line, StepAt, Goes, IsOpen, Feeds, settled}
use Rattle.http_head.specs.declared.body.Fed.{Fed}
use Rattle.http_head.specs.declared.body.Fed.TheVariants.{More, Done, Bad}
use Rattle.http_head.specs.declared.body.Place.{Place}
use Rattle.http_head.specs.declared.body.Place.TheVariants.{Counted, Line, Chunk, ChunkReturn, ChunkFeed, LastReturn, LastFeed, Whole, Malformed, TooLarge}
use Rattle.http_head.proofs.OneReading.{decide}
use Rattle.session_loop.specs.Cutting.{Wish, Request, Ending, ended, cut_off, refused, refused_envelope, HasHead, wish_of, IsBody, open_body, bad_body, bad_envelope, nothing, open_head, long_head, bad_head, in_body, IsRequestTo, Cut, is_last}

-- it can't be that there is none
abbrev Possible : Type 0 → Type 0
Possible A = (A → ⊥) → ⊥

-- ---- one byte of a body

size_possible : (line : List ℕ) → Possible ((size : Option ℕ) × IsSizeOf line size)
size_possible line none = none (None, λ l rest reads. none (Some (chunk_size l), (l, rest, reads, refl)))

line_possible : (s : Reading) (byte : ℕ) → (byte ≡ line_feed) ⊎ (byte ≡ line_feed → ⊥) → Possible ((t : Reading) × LineStep s byte t)
line_possible s byte (inl is) none =
    size_possible (s.line ++ byte ∷ []) (λ size. none (after_line size.0 s, record { ended = λ _. (size.0, size.1, refl); goes_on = λ other. absurd (other is) }))
line_possible s byte (inr other) none = none (inside_line byte s, record { ended = λ is. absurd (other is); goes_on = λ _. refl })

none_is : (fed : Fed) → ◌≡◌ {A = Option Fed} (Some fed) None → ⊥
none_is fed e = cc

step_possible : (place : Place) (s : Reading) (byte : ℕ) → IsOpen place → Possible ((t : Reading) × StepAt place s byte t)
step_possible (Counted left) s byte open_there none = none (_, refl)
step_possible Line s byte open_there none = line_possible s byte (decide byte line_feed (nat_eq byte line_feed) refl) none
step_possible (Chunk left) s byte open_there none = none (_, refl)
step_possible ChunkReturn s byte open_there none = none (_, refl)
step_possible ChunkFeed s byte open_there none = none (_, refl)
step_possible LastReturn s byte open_there none = none (_, refl)
step_possible LastFeed s byte open_there none = none (_, refl)
step_possible Whole s byte open_there none = none_is _ open_there
step_possible Malformed s byte open_there none = none_is _ open_there
step_possible TooLarge s byte open_there none = none_is _ open_there

-- ---- a body

-- a body is taken up to where it doesn't go on
record Reaches (s : Reading) (bytes : List ℕ) : Type 0 where
  pub last : Reading
  pub used : ℕ
  pub within : used ≤ length bytes
  pub goes : Goes s (take used bytes) last
  pub all : IsOpen last.place → used ≡ length bytes

is_open : (place : Place) → IsOpen place ⊎ (IsOpen place → ⊥)
is_open (Counted left) = inl refl
is_open Line = inl refl
is_open (Chunk left) = inl refl
is_open ChunkReturn = inl refl
is_open ChunkFeed = inl refl
is_open LastReturn = inl refl
is_open LastFeed = inl refl
is_open Whole = inr (λ e. none_is _ e)
is_open Malformed = inr (λ e. none_is _ e)
is_open TooLarge = inr (λ e. none_is _ e)

here : (s : Reading) (bytes : List ℕ) → (IsOpen s.place → 0 ≡ length bytes) → Reaches s bytes
here s bytes all = record { last = s; used = 0; within = omega arith; goes = refl; all = all }

behind_byte : (s m : Reading) (byte : ℕ) (bytes : List ℕ) → StepAt s.place s byte m → Reaches m bytes → Reaches s (byte ∷ bytes)
behind_byte s m byte bytes step r = record {
  last = r.last;
  used = suc r.used;
  within = let w = r.within in omega (arith, w);
  goes = (m, step, r.goes);
  all = λ is. ap suc (r.all is);
}

reach_possible : (bytes : List ℕ) (s : Reading) → Possible (Reaches s bytes)
reach_possible [] s none = none (here s [] (λ _. refl))
reach_possible (byte ∷ bytes) s none = elim (is_open s.place) [
  | inl is ↦ step_possible s.place s byte is (λ m. reach_possible bytes m.0 (λ r. none (behind_byte s m.0 byte bytes m.1 r)))
  | inr ended_there ↦ none (here s (byte ∷ bytes) (λ is. absurd (ended_there is)))
]

take_all : (bytes : List ℕ) → take (length bytes) bytes ≡ bytes
take_all bytes = grind (arith, common_steps)

more_feeds : (s : Reading) (bytes : List ℕ) (r : Reaches s bytes) → IsOpen r.last.place → Feeds s bytes r.last More
more_feeds s bytes r is = (is, subst (λ (l : List ℕ). Goes s l r.last) (ap (λ (n : ℕ). take n bytes) (r.all is) ∙ take_all bytes) r.goes)

reach_feeds : (place : Place) (s : Reading) (bytes : List ℕ) (r : Reaches s bytes) → r.last.place ≡ place → (fed : Fed) × Feeds s bytes r.last fed
reach_feeds (Counted left) s bytes r is = (More, more_feeds s bytes r (subst IsOpen (sym is) refl))
reach_feeds Line s bytes r is = (More, more_feeds s bytes r (subst IsOpen (sym is) refl))
reach_feeds (Chunk left) s bytes r is = (More, more_feeds s bytes r (subst IsOpen (sym is) refl))
reach_feeds ChunkReturn s bytes r is = (More, more_feeds s bytes r (subst IsOpen (sym is) refl))
reach_feeds ChunkFeed s bytes r is = (More, more_feeds s bytes r (subst IsOpen (sym is) refl))
reach_feeds LastReturn s bytes r is = (More, more_feeds s bytes r (subst IsOpen (sym is) refl))
reach_feeds LastFeed s bytes r is = (More, more_feeds s bytes r (subst IsOpen (sym is) refl))
reach_feeds Whole s bytes r is = (Done r.used, record { within = r.within; goes = r.goes; answer = ap (λ (p : Place). settled p r.used) is })
reach_feeds Malformed s bytes r is = (Bad 400, (r.used, record { within = r.within; goes = r.goes; answer = ap (λ (p : Place). settled p r.used) is }))
reach_feeds TooLarge s bytes r is = (Bad 413, (r.used, record { within = r.within; goes = r.goes; answer = ap (λ (p : Place). settled p r.used) is }))

feeds_possible : (s : Reading) (bytes : List ℕ) → Possible ((t : Reading) × (fed : Fed) × Feeds s bytes t fed)
feeds_possible s bytes none = reach_possible bytes s (λ r. let f = reach_feeds r.last.place s bytes r refl in none (r.last, f.0, f.1))

-- ---- a head

reading_possible : (names : List (List ℕ)) (bytes : List ℕ) → Possible ((v : Result Parts ℕ) × ReadsHead names bytes v)
reading_possible names bytes none =
    none (Err 400, inr (λ h whole. none (judge names h.method h.target h.minor (map name_and_value h.fields), inl (h, whole, refl)), refl))

-- the first place, below n, at which the bytes end a head, or that there is none
search : (bytes : List ℕ) (n : ℕ) → ((m : ℕ) × (m < n) × IsTrue (ends_head (take m bytes)) × ((k : ℕ) → k < m → ¬ IsTrue (ends_head (take k bytes))))
    ⊎ ((k : ℕ) → k < n → ¬ IsTrue (ends_head (take k bytes)))
search bytes zero = inr (λ k less. absurd (omega (arith, less)))
search bytes (suc n) = go (search bytes n) (ends_head (take n bytes)) refl
  where
    here_or : (k : ℕ) → k < suc n → (k < n) ⊎ (k ≡ n)
    here_or k less = grind (arith, common_steps)

    no_truth : IsTrue false → ⊥
    no_truth h = cc

    still : ends_head (take n bytes) ≡ false → ((k : ℕ) → k < n → ¬ IsTrue (ends_head (take k bytes))) → (k : ℕ) → k < suc n → ¬ IsTrue (ends_head (take k bytes))
    still is none k less ends = elim (here_or k less) [
      | inl below ↦ none k below ends
      | inr same ↦ no_truth (subst IsTrue is (subst (λ (i : ℕ). IsTrue (ends_head (take i bytes))) same ends))
    ]

    go : ((m : ℕ) × (m < n) × IsTrue (ends_head (take m bytes)) × ((k : ℕ) → k < m → ¬ IsTrue (ends_head (take k bytes))))
        ⊎ ((k : ℕ) → k < n → ¬ IsTrue (ends_head (take k bytes))) → (b : Bool) → ends_head (take n bytes) ≡ b
        → ((m : ℕ) × (m < suc n) × IsTrue (ends_head (take m bytes)) × ((k : ℕ) → k < m → ¬ IsTrue (ends_head (take k bytes))))
        ⊎ ((k : ℕ) → k < suc n → ¬ IsTrue (ends_head (take k bytes)))
    go (inl (m, less, ends, first)) b is = inl (m, omega (arith, less), ends, first)
    go (inr none) true is = inl (n, omega arith, subst IsTrue (sym is) refl, none)
    go (inr none) false is = inr (still is none)

-- the head is the first n bytes, or none ends within `most`
found_or_none : (bytes : List ℕ) (most : ℕ) → most ≤ length bytes → ((n : ℕ) × (n ≤ most) × IsHeadOf bytes n) ⊎ HasNoHeadEnd most bytes
found_or_none bytes most within = elim (search bytes (suc most)) [
  | inl (m, less, ends, first) ↦ inl (m, omega (arith, less), record { within = omega (arith, less, within); ends = ends; first = first })
  | inr none ↦ inr (λ n le. none n (omega (arith, le)))
]

no_empty_head : (bytes : List ℕ) (n : ℕ) → IsHeadOf bytes n → 0 < n
no_empty_head bytes zero h = absurd (let e = h.ends in cc)
no_empty_head bytes (suc n) h = omega arith

-- ---- the whole

abbrev SomeCut : List (List ℕ) → ℕ → List ℕ → Type 0
SomeCut names left bytes = (rs : List Request) × (e : Ending) × Cut names left bytes rs e

-- behind a request, once it is known of what follows
after_request : (names : List (List ℕ)) (left : ℕ) (bytes : List ℕ) (used : ℕ) (r : Request) (b : Bool) → is_last left r.close ≡ b → IsRequestTo names bytes used r
    → Possible (SomeCut names (left - 1) (drop used bytes)) → Possible (SomeCut names left bytes)
after_request names left bytes used r true last is later none =
    none (r ∷ [], ended, (used, is, (λ _. (refl, refl)), λ going. absurd (let e = sym last ∙ going in cc)))
after_request names left bytes used r false last is later none =
    later (λ cut. none (r ∷ cut.0, cut.1, (used, is, (λ yes. absurd (let e : IsTrue false = subst IsTrue last yes in cc)), λ _. cut.2)))

module _ (names : List (List ℕ)) (left : ℕ) (bytes : List ℕ) (later : (used : ℕ) → 0 < used → 0 < length bytes → Possible (SomeCut names (left - 1) (drop used bytes))) where
  wished : (n used : ℕ) (parts : Parts) (body : List ℕ) (w : Result Wish ℕ) → HasHead names bytes n (Ok parts) → IsBody (fresh parts.framing) (drop n bytes) used body
      → wish_of parts.route body ≡ w → Possible (SomeCut names left bytes)
  wished n used parts body (Err status) head is w none =
      none ([], refused_envelope status, in_body n parts (refused_envelope status) head (bad_envelope used status body is w))
  wished n used parts body (Ok wish) head is w none =
      let r : Request = record { wish = wish; user = parts.user; close = parts.close } in
      let some : 0 < n = no_empty_head bytes n head.head in
      after_request names left bytes (n + used) r (is_last left r.close) refl
      (record { head_length = n; body_length = used; parts = parts; head = head; body = body; is_body = is; wish = w; used_is = refl; user_is = refl; close_is = refl })
      (later (n + used) (omega (arith, some)) (let w = head.head.within in omega (arith, some, w))) none

  fed_on : (n : ℕ) (parts : Parts) (t : Reading) (fed : Fed) → HasHead names bytes n (Ok parts) → Feeds (fresh parts.framing) (drop n bytes) t fed → Possible (SomeCut names left bytes)
  fed_on n parts t More head feeds none = none ([], cut_off, in_body n parts cut_off head (open_body t feeds))
  fed_on n parts t (Bad status) head feeds none = none ([], refused status, in_body n parts (refused status) head (bad_body t status feeds))
  fed_on n parts t (Done used) head feeds none = wished n used parts t.body (wish_of parts.route t.body) head (t, feeds, refl) refl none

  read_on : (n : ℕ) (v : Result Parts ℕ) → HasHead names bytes n v → Possible (SomeCut names left bytes)
  read_on n (Err status) head none = none ([], refused status, bad_head n status head)
  read_on n (Ok parts) head none =
      feeds_possible (fresh parts.framing) (drop n bytes) (λ x. fed_on n parts x.0 x.1 head x.2 none)

  headed : (n : ℕ) → n ≤ 16_384 → IsHeadOf bytes n → Possible (SomeCut names left bytes)
  headed n short head none =
      reading_possible names (take n bytes) (λ v. read_on n v.0 (record { short = short; head = head; reads = v.1 }) none)

  headless : length bytes < 16_384 → HasNoHeadEnd (length bytes) bytes → (b : Bool) → list_any is_text bytes ≡ b → Possible (SomeCut names left bytes)
  headless short no_end true is none = none ([], cut_off, open_head short no_end is)
  headless short no_end false is none = none ([], ended, nothing short is)

  cut_here : (length bytes < 16_384) ⊎ (16_384 ≤ length bytes) → Possible (SomeCut names left bytes)
  cut_here (inl short) = elim (found_or_none bytes (length bytes) (omega arith)) [
    | inl (n, le, head) ↦ headed n (omega (arith, le, short)) head
    | inr no_end ↦ headless short no_end (list_any is_text bytes) refl
  ]
  cut_here (inr long) = elim (found_or_none bytes 16_384 long) [
    | inl (n, le, head) ↦ headed n le head
    | inr no_end ↦ λ none. none ([], refused 431, long_head long no_end)
  ]

either_length : (n : ℕ) → (n < 16_384) ⊎ (16_384 ≤ n)
either_length n = grind (arith, common_steps)

less_left : (bytes : List ℕ) (fuel used : ℕ) → length bytes < suc fuel → 0 < used → 0 < length bytes → length (drop used bytes) < fuel
less_left bytes fuel used less some any = grind (arith, common_steps)

cuts : (fuel : ℕ) (names : List (List ℕ)) (left : ℕ) (bytes : List ℕ) → length bytes < fuel → Possible (SomeCut names left bytes)
cuts zero names left bytes less = absurd (omega (arith, less))
cuts (suc fuel) names left bytes less =
    cut_here names left bytes (λ used some any. cuts fuel names (left - 1) (drop used bytes) (less_left bytes fuel used less some any)) (either_length (length bytes))

pub some_cut : (names : List (List ℕ)) (left : ℕ) (bytes : List ℕ) → ¬ ((rs : List Request) (e : Ending) → ¬ Cut names left bytes rs e)
some_cut names left bytes none = cuts (suc (length bytes)) names left bytes (omega arith) (λ x. none x.0 x.1 x.2)
