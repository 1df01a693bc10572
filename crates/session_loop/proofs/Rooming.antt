-- Each step of a session leaves less room.
use Rattle.std.proofs.Common.{◌≡◌, ℕ, ◌+◌, ◌-◌, ◌<◌, ◌≤◌, List, ◌++◌, length, Option, Some, None, Bool, true, false, refl, sym, subst, arith}
use Rattle.std.proofs.lemmas.Grind.{common_steps}
use Rattle.std.specs.Prelude.{◌||◌, ◌==◌}
use Rattle.http_head.specs.Bodies.{Feeds}
use Rattle.http_head.specs.Heads.{FindsHeadEnd}
use Rattle.http_head.specs.declared.answer.Media.{Media}
use Rattle.http_head.specs.declared.body.Fed.TheVariants.{More}
use Rattle.http_head.specs.declared.head.HeadEnd.TheVariants as heads
use Rattle.http_head.specs.declared.target.Route.{Route}
use Rattle.doc_model.specs.declared.call.Call.{Call}
use Rattle.doc_model.specs.declared.reply.Submitted.{Submitted}
use Rattle.collection_run.specs.declared.progress.Progress.{Progress}
use Rattle.collection_run.specs.Processes.{Process, says, calls, Asks, after, AtMost}
use Rattle.collection_run.specs.Progress.{process_of}
use Rattle.session_loop.specs.Cutting.{is_last}
use Rattle.session_loop.specs.Sessions.{Machine, IsFresh, IsRefusing, IsAnswering, next_of, WantsIs}
use Rattle.session_loop.specs.declared.want.Want.TheVariants.{Bytes}
use Rattle.session_loop.specs.declared.stage.Stage.{Stage}
use Rattle.session_loop.specs.declared.stage.Stage.TheVariants.{Heading, InBody, Timing, Running, Filing, Fronting, Writing, Over}
use Rattle.session_loop.specs.declared.want.SessionEnd.{SessionEnd}
use Rattle.session_loop.proofs.BodyRoom.{goes_less}
use Rattle.session_loop.specs.Rooms.{body_room, later, body_steps, head_steps, most_steps, RunRoom, RoomAt, HasRoom, Falls}

more_at : (stage : Stage) (m : Machine) (i j : ℕ) → i ≤ j → RoomAt stage m i → RoomAt stage m j
more_at Heading m i j less h = (h.0, omega (arith, less, h.1))
more_at (InBody route close) m i j less h = (h.0, omega (arith, less, h.1))
more_at (Timing route close) m i j less h = (h.0, omega (arith, less, h.1))
more_at (Running doc close) m i j less h = (h.0, go m.runner h.1)
  where
    go : (r : Option Progress) → RunRoom r (later m.left) i → RunRoom r (later m.left) j
    go None x = x
    go (Some p) (k, x, y) = (k, x, omega (arith, less, y))
more_at (Filing doc close) m i j less h = (h.0, omega (arith, less, h.1))
more_at (Fronting doc close) m i j less h = (h.0, omega (arith, less, h.1))
more_at (Writing (Some end)) m i j less h = omega (arith, less, h)
more_at (Writing None) m i j less h = (h.0, omega (arith, less, h.1))
more_at (Over end) m i j less h = tt

pub more_room : (m : Machine) (i j : ℕ) → i ≤ j → HasRoom m i → HasRoom m j
more_room m i j less h = more_at m.stage m i j less h

pub fresh_room : (names : List (List ℕ)) (m : Machine) → IsFresh names m → HasRoom m most_steps
fresh_room names m is =
    subst (λ (st : Stage). RoomAt st m most_steps) (sym is.stage)
    (subst (λ (l : ℕ). (1 ≤ l) × (head_steps (length m.input) l ≤ most_steps)) (sym is.left) (omega arith, omega arith))

pub refusing_room : (n : Machine) (status k : ℕ) → IsRefusing status n → 1 ≤ k → HasRoom n k
refusing_room n status k is some = subst (λ (st : Stage). RoomAt st n k) (sym is.stage) some

two : (left : ℕ) (close : Bool) → (close || left == 1) ≡ false → 1 ≤ left → 2 ≤ left
two left true e some = absurd cc
two left false e some = grind (arith, common_steps)

pub answering_room : (m n : Machine) (media : Media) (body : List ℕ) (close : Bool) → IsAnswering m media body close n → 1 ≤ m.left → HasRoom n (1 + later m.left)
answering_room m n media body close is some = subst (λ (st : Stage). RoomAt st n (1 + later m.left)) (sym is.stage) (go (is_last m.left close) refl)
  where
    go : (b : Bool) → is_last m.left close ≡ b → RoomAt (Writing (next_of b)) n (1 + later m.left)
    go true e = omega arith
    go false e = subst (λ (l : ℕ). (2 ≤ l) × (1 + later l ≤ 1 + later m.left)) (sym is.left) (two m.left close e some, omega arith)

-- ---- bytes

pub more_in_body : (m n : Machine) (route : Route) (close : Bool) (bytes : List ℕ) → n.stage ≡ InBody route close → n.left ≡ m.left → Feeds m.body bytes n.body More → 1 ≤ m.left
    → HasRoom n (body_steps (body_room m.body - length bytes) m.left)
more_in_body m n route close bytes at left feeds some =
    let less = goes_less bytes m.body n.body feeds.1 in
    subst (λ (st : Stage). RoomAt st n (body_steps (body_room m.body - length bytes) m.left)) (sym at)
    (subst (λ (l : ℕ). (1 ≤ l) × (body_steps (body_room n.body) l ≤ body_steps (body_room m.body - length bytes) m.left)) (sym left) (some, omega (arith, less)))

pub done_in_body : (m n : Machine) (route : Route) (close : Bool) (bytes : List ℕ) → n.stage ≡ Timing route close → n.left ≡ m.left → 1 ≤ m.left
    → HasRoom n (body_steps (body_room m.body - length bytes) m.left)
done_in_body m n route close bytes at left some =
    subst (λ (st : Stage). RoomAt st n (body_steps (body_room m.body - length bytes) m.left)) (sym at)
    (subst (λ (l : ℕ). (1 ≤ l) × (4_106 + later l ≤ body_steps (body_room m.body - length bytes) m.left)) (sym left) (some, omega arith))

pub still_heading : (m : Machine) → m.stage ≡ Heading → 1 ≤ m.left → HasRoom m (head_steps (length m.input) m.left)
still_heading m at some = subst (λ (st : Stage). RoomAt st m (head_steps (length m.input) m.left)) (sym at) (some, omega arith)

-- a piece that is not empty
pub heading_falls : (m n : Machine) (piece : List ℕ) (input : List ℕ) → m.stage ≡ Heading → FindsHeadEnd m.input heads.More → 0 < length piece → input ≡ m.input ++ piece
    → (1 ≤ m.left → HasRoom n (head_steps (length input) m.left)) → Falls m n
heading_falls m n piece input at found some is next room has =
    let h = subst (λ (st : Stage). RoomAt st m room) at has in
    (head_steps (length input) m.left, falls h.1, next h.0)
  where
    falls : head_steps (length m.input) m.left ≤ room → head_steps (length input) m.left < room
    falls le =
        let f = found.0 in
        subst (λ (l : List ℕ). head_steps (length l) m.left < room) (sym is) (grind (arith, common_steps))

pub body_falls : (m n : Machine) (route : Route) (close : Bool) (piece : List ℕ) → m.stage ≡ InBody route close → 0 < body_room m.body → 0 < length piece
    → (1 ≤ m.left → HasRoom n (body_steps (body_room m.body - length piece) m.left)) → Falls m n
body_falls m n route close piece at going some next room has =
    let h = subst (λ (st : Stage). RoomAt st m room) at has in
    (body_steps (body_room m.body - length piece) m.left, omega (arith, h.1, going, some), next h.0)

-- ---- calls and answers

pub after_calls : (k doc : ℕ) (call : Call) (p : Process) (submitted : Submitted) → Asks p doc call → AtMost k p → (0 < k) × AtMost (k - 1) (after p submitted)
after_calls k doc call (says text) submitted asks h = absurd asks
after_calls k doc call (calls d c go_on) submitted asks h = (h.0, h.1 submitted)

pub timing_falls : (m n : Machine) (route : Route) (close : Bool) (k : ℕ) → m.stage ≡ Timing route close → k < 4_106 → (1 ≤ m.left → HasRoom n (k + later m.left)) → Falls m n
timing_falls m n route close k at less next room has =
    let h = subst (λ (st : Stage). RoomAt st m room) at has in
    (k + later m.left, omega (arith, h.1, less), next h.0)

pub fronting_room : (m n : Machine) (doc : ℕ) (close : Bool) → n.stage ≡ Fronting doc close → n.left ≡ m.left → 1 ≤ m.left → HasRoom n (3 + later m.left)
fronting_room m n doc close at left some =
    subst (λ (st : Stage). RoomAt st n (3 + later m.left)) (sym at) (subst (λ (l : ℕ). (1 ≤ l) × (3 + later l ≤ 3 + later m.left)) (sym left) (some, omega arith))

pub filing_room : (m n : Machine) (doc : ℕ) (close : Bool) → n.stage ≡ Filing doc close → n.left ≡ m.left → 1 ≤ m.left → HasRoom n (3 + later m.left)
filing_room m n doc close at left some =
    subst (λ (st : Stage). RoomAt st n (3 + later m.left)) (sym at) (subst (λ (l : ℕ). (1 ≤ l) × (3 + later l ≤ 3 + later m.left)) (sym left) (some, omega arith))

pub running_room : (m n : Machine) (doc : ℕ) (close : Bool) (p q : Progress) (k : ℕ) → n.stage ≡ Running doc close → n.left ≡ m.left → n.runner ≡ Some q → process_of q ≡ process_of p
    → 1 ≤ m.left → AtMost k (process_of p) → HasRoom n (k + 2 + later m.left)
running_room m n doc close p q k at left runner same some few =
    subst (λ (st : Stage). RoomAt st n (k + 2 + later m.left)) (sym at)
    (subst (λ (r : Option Progress). (1 ≤ n.left) × RunRoom r (later n.left) (k + 2 + later m.left)) (sym runner)
    (subst (λ (l : ℕ). (1 ≤ l) × RunRoom (Some q) (later l) (k + 2 + later m.left)) (sym left) (some, (k, subst (AtMost k) (sym same) few, omega arith))))

pub running_falls : (m n : Machine) (p q : Progress) (doc : ℕ) (close : Bool) (call : Call) (submitted : Submitted) → m.stage ≡ Running doc close → m.runner ≡ Some p
    → Asks (process_of p) doc call → process_of q ≡ after (process_of p) submitted
    → (1 ≤ m.left → (k : ℕ) → AtMost k (process_of q) → HasRoom n (k + 2 + later m.left)) → Falls m n
running_falls m n p q doc close call submitted at runner asks goes next room has =
    let h = subst (λ (st : Stage). RoomAt st m room) at has in
    let r = subst (λ (o : Option Progress). RunRoom o (later m.left) room) runner h.1 in
    let a = after_calls r.0 doc call (process_of p) submitted asks r.1 in
    ((r.0 - 1) + 2 + later m.left, omega (arith, a.0, r.2), next h.0 (r.0 - 1) (subst (AtMost (r.0 - 1)) (sym goes) a.1))

pub filing_falls : (m n : Machine) (doc : ℕ) (close : Bool) → m.stage ≡ Filing doc close → (1 ≤ m.left → HasRoom n (1 + later m.left)) → Falls m n
filing_falls m n doc close at next room has =
    let h = subst (λ (st : Stage). RoomAt st m room) at has in
    (1 + later m.left, omega (arith, h.1), next h.0)

pub fronting_falls : (m n : Machine) (doc : ℕ) (close : Bool) → m.stage ≡ Fronting doc close → (1 ≤ m.left → HasRoom n (1 + later m.left)) → Falls m n
fronting_falls m n doc close at next room has =
    let h = subst (λ (st : Stage). RoomAt st m room) at has in
    (1 + later m.left, omega (arith, h.1), next h.0)

pub end_falls : (m n : Machine) (end : SessionEnd) → m.stage ≡ Writing (Some end) → n.stage ≡ Over end → Falls m n
end_falls m n end at over room has =
    let h = subst (λ (st : Stage). RoomAt st m room) at has in
    (0, omega (arith, h), subst (λ (st : Stage). RoomAt st n 0) (sym over) tt)

pub next_falls : (m n : Machine) (input : List ℕ) → m.stage ≡ Writing None
    → (1 ≤ m.left - 1 → HasRoom n (head_steps (length input) (m.left - 1))) → Falls m n
next_falls m n input at next room has =
    let h = subst (λ (st : Stage). RoomAt st m room) at has in
    (head_steps (length input) (m.left - 1), omega (arith, h.0, h.1), next (omega (arith, h.0)))

-- the source has ended
pub source_falls : (stage : Stage) (m n : Machine) (end : SessionEnd) → m.stage ≡ stage → WantsIs stage Bytes → n.stage ≡ Over end → Falls m n
source_falls Heading m n end at wants over room has =
    let h = subst (λ (st : Stage). RoomAt st m room) at has in
    (0, omega (arith, h.1), subst (λ (st : Stage). RoomAt st n 0) (sym over) tt)
source_falls (InBody route close) m n end at wants over room has =
    let h = subst (λ (st : Stage). RoomAt st m room) at has in
    (0, omega (arith, h.1), subst (λ (st : Stage). RoomAt st n 0) (sym over) tt)
source_falls (Timing route close) m n end at wants over room has = absurd cc
source_falls (Running doc close) m n end at wants over room has = absurd cc
source_falls (Filing doc close) m n end at wants over room has = absurd cc
source_falls (Fronting doc close) m n end at wants over room has = absurd cc
source_falls (Writing next) m n end at wants over room has = absurd cc
source_falls (Over other) m n end at wants over room has = absurd cc
