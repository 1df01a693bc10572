-- What a step of a reading gives.
use Rattle.std.proofs.Common.{◌≡◌, ◌≢◌, inl, inr, ℕ, ◌+◌, List, [], ◌∷◌, ◌++◌, length, take, drop, Some, IsTrue, false, true≢false, refl, sym, ◌∙◌, ap, arith, append_assoc, length-append, take-append-drop}
use Rattle.std.proofs.lemmas.Bool.{cases_eq}
use Rattle.std.proofs.lemmas.Bool.Decides.{nat_tests}
use lib.Seq.{drop-drop}
use Rattle.std.specs.declared.option.Option.{Option}
use Rattle.compact_values.specs.declared.guid.Guid.{Guid}
use Rattle.compact_values.specs.Compact.{little_endian}
use Rattle.compact_values.proofs.LittleEndian.{length-little_endian}
use Rattle.host_edge.specs.Disks.{Only, Untouched}
use Rattle.cell_journal.specs.Layout.{measured, front, IsBody, Image}
use Rattle.cell_journal.specs.Faults.{measured_at, step_at, FailsAt, Step, Whole, Closed, Fails}
use Rattle.cell_journal.specs.Readings.{HasGiven}
use Rattle.cell_journal.specs.declared.state.Reading.{Reading}
use Rattle.cell_journal.proofs.Images.{front-more, AreBodies-more}

is_closed : Step → Type 0
is_closed Closed = Unit {0}
is_closed (Whole body) = ⊥
is_closed (Fails place) = ⊥

measured_not_closed : (place : ℕ) (bytes : List ℕ) → measured_at place bytes ≡ Closed → ⊥
measured_not_closed place bytes is = grind (arith, nat_tests, is)

-- a closed gate
record ClosesAt (rest : List ℕ) : Type 0 where
  pub gate : ℕ
  pub more : List ℕ
  pub shut : gate ≢ 1
  pub rest_is : rest ≡ gate ∷ more

closes_at : (place : ℕ) (rest : List ℕ) → step_at place rest ≡ Closed → ClosesAt rest
closes_at place [] is = absurd (cc is)
closes_at place (gate ∷ more) is = elim (cases_eq gate 1) [
  | inl open_gate ↦
      let there : measured_at (place + 1) more ≡ Closed = (grind (arith, nat_tests, is, open_gate)) in
      absurd (measured_not_closed (place + 1) more there)
  | inr shut ↦ record { gate = gate; more = more; shut = shut; rest_is = refl }
]

module _ {D : Type 0} (seen : D → Option (List ℕ)) (may_leave : D → List ℕ → Type 0) where
  -- where the end was seen, each image is a journal of the bodies
  pub image_of : (reading : Reading D) (taken : List (List ℕ)) (c : List ℕ) → HasGiven seen may_leave reading taken → IsTrue reading.ended
      → may_leave reading.disk c → Image reading.guid taken c
  image_of reading taken c given ended left =
      let within = given.here c (given.only c left) in
      let closes = closes_at reading.at (drop reading.at c) (within.ended ended) in
      (closes.gate, closes.shut, record { rest = closes.more; bytes_are = within.bytes_are ∙ ap (λ (l : List ℕ). front reading.guid taken ++ l) closes.rest_is; fit = given.fit })

-- a whole body behind what was given
body_behind : (guid : Guid) (taken : List (List ℕ)) (body c : List ℕ) (at : ℕ) → at ≡ length (front guid taken) → c ≡ front guid taken ++ drop at c
    → take 9 (drop at c) ≡ 1 ∷ little_endian 8 (length body) → body ≡ take (length body) (drop (at + 9) c)
    → c ≡ front guid (taken ++ body ∷ []) ++ drop (at + (9 + length body)) c
body_behind guid taken body c at is bytes_are head body_is =
    let first : drop at c ≡ (1 ∷ little_endian 8 (length body)) ++ drop (at + 9) c =
    sym (take-append-drop 9 (drop at c)) ∙ ap (λ (l : List ℕ). l ++ drop 9 (drop at c)) head ∙ ap (λ (l : List ℕ). (1 ∷ little_endian 8 (length body)) ++ l) (drop-drop 9 at c) in
    let second : drop (at + 9) c ≡ body ++ drop (at + 9 + length body) c =
    sym (take-append-drop (length body) (drop (at + 9) c)) ∙ ap (λ (l : List ℕ). l ++ drop (length body) (drop (at + 9) c)) (sym body_is)
    ∙ ap (λ (l : List ℕ). body ++ l) (drop-drop (length body) (at + 9) c) in
    let place : at + 9 + length body ≡ at + (9 + length body) = omega arith in
    bytes_are
    ∙ ap (λ (l : List ℕ). front guid taken ++ l) (first ∙ ap (λ (l : List ℕ). (1 ∷ little_endian 8 (length body)) ++ l) (second ∙ ap (λ (n : ℕ). body ++ drop n c) place)
    ∙ sym (append_assoc (1 ∷ little_endian 8 (length body)) body (drop (at + (9 + length body)) c)))
    ∙ sym (append_assoc (front guid taken) (1 ∷ measured body) (drop (at + (9 + length body)) c))
    ∙ ap (λ (l : List ℕ). l ++ drop (at + (9 + length body)) c) (sym (front-more guid taken body))

module _ {D : Type 0} (seen : D → Option (List ℕ)) (may_leave : D → List ℕ → Type 0) (moment : D → ℕ) (left_since : D → ℕ → List ℕ → Type 0)
    (old : Reading D) (taken : List (List ℕ)) (given : HasGiven seen may_leave old taken) where
  still_only : (disk : D) → Untouched seen may_leave moment left_since old.disk disk → Only (seen disk) (may_leave disk)
  still_only disk same c left = same.reads ∙ given.only c ((same.images c).0 left)

  pub gives_end : (new : Reading D) → Untouched seen may_leave moment left_since old.disk new.disk → new.guid ≡ old.guid → new.total ≡ old.total → new.at ≡ old.at → new.count ≡ old.count
      → ((c : List ℕ) → seen old.disk ≡ Some c → step_at old.at (drop old.at c) ≡ Closed) → HasGiven seen may_leave new taken
  gives_end new same guid total at count closed = record {
    only = still_only new.disk same;
    here = λ c told.
        let told_before : seen old.disk ≡ Some c = sym same.reads ∙ told in
        let within = given.here c told_before in
        record {
          bytes_are = within.bytes_are ∙ ap (λ (id : Guid). front id taken ++ drop old.at c) (sym guid) ∙ ap (λ (n : ℕ). front new.guid taken ++ drop n c) (sym at);
          total = total ∙ within.total;
          ended = λ flag. rw at (closed c told_before);
        };
    at = at ∙ given.at ∙ ap (λ (id : Guid). length (front id taken)) (sym guid);
    count = count ∙ given.count;
    fit = given.fit;
  }

  pub gives_body : (new : Reading D) (body : List ℕ) → Untouched seen may_leave moment left_since old.disk new.disk → new.guid ≡ old.guid → new.total ≡ old.total
      → new.at ≡ old.at + (9 + length body) → new.count ≡ old.count + 1 → new.ended ≡ false → IsBody body
      → ((c : List ℕ) → seen old.disk ≡ Some c → take 9 (drop old.at c) ≡ 1 ∷ little_endian 8 (length body))
      → ((c : List ℕ) → seen old.disk ≡ Some c → body ≡ take (length body) (drop (old.at + 9) c))
      → HasGiven seen may_leave new (taken ++ body ∷ [])
  gives_body new body same guid total at count ended one head body_is = record {
    only = still_only new.disk same;
    here = λ c told.
        let told_before : seen old.disk ≡ Some c = sym same.reads ∙ told in
        let within = given.here c told_before in
        record {
          bytes_are = body_behind old.guid taken body c old.at given.at within.bytes_are (head c told_before) (body_is c told_before)
              ∙ ap (λ (id : Guid). front id (taken ++ body ∷ []) ++ drop (old.at + (9 + length body)) c) (sym guid)
              ∙ ap (λ (n : ℕ). front new.guid (taken ++ body ∷ []) ++ drop n c) (sym at);
          total = total ∙ within.total;
          ended = λ flag. absurd (true≢false (sym flag ∙ ended));
        };
    at = at ∙ more given.at ∙ ap (λ (id : Guid). length (front id (taken ++ body ∷ []))) (sym guid);
    count = count ∙ omega (arith, given.count, length-append taken (body ∷ []));
    fit = AreBodies-more taken body given.fit one;
  }
    where
      more : old.at ≡ length (front old.guid taken) → old.at + (9 + length body) ≡ length (front old.guid (taken ++ body ∷ []))
      more is =
          omega (arith, is, ap length (front-more old.guid taken body), length-append (front old.guid taken) (1 ∷ measured body), length-append (little_endian 8 (length body)) body, length-little_endian 8 (length body))

-- what fails behind the bodies that were given
pub fails_at : {D : Type 0} (seen : D → Option (List ℕ)) (may_leave : D → List ℕ → Type 0) (reading : Reading D) (taken : List (List ℕ)) → HasGiven seen may_leave reading taken
    → (c : List ℕ) → seen reading.disk ≡ Some c → (place : ℕ) → step_at reading.at (drop reading.at c) ≡ Fails place → FailsAt place c
fails_at seen may_leave reading taken given c told place fails = inr (record {
  guid = reading.guid;
  bodies = taken;
  rest = drop reading.at c;
  fit = given.fit;
  bytes_are = (given.here c told).bytes_are;
  fails = ap (λ (n : ℕ). step_at n (drop reading.at c)) (sym given.at) ∙ fails;
})
