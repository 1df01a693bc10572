-- Answers that are written, and what follows them.
use Rattle.std.proofs.Common.{◌≡◌, ℕ, ◌-◌, List, ◌++◌, Bool, true, false, refl, sym, ap, subst, ◌∙◌}
use Rattle.std.specs.Prelude.{IsTrue}
use Rattle.http_head.specs.Answers.{answer_text}
use Rattle.http_head.specs.declared.answer.Media.{Media}
use Rattle.session_loop.specs.Cutting.{is_last}
use Rattle.session_loop.specs.Courses.{Course, ends, writes, answered, refusing}
use Rattle.session_loop.specs.Sessions.{Machine, Serves, Follows, Future, FutureAt, IsRefusing, IsAnswering, next_of}
use Rattle.session_loop.specs.declared.want.SessionEnd.TheVariants.{Ended, Refused}
use Rattle.session_loop.specs.declared.stage.Stage.{Stage}
use Rattle.session_loop.specs.declared.stage.Stage.TheVariants.{Writing}

-- ---- a refusal

pub refused_future : (status : ℕ) (n : Machine) (rest : List ℕ) (c : Course) → IsRefusing status n → Future n rest c → c ≡ refusing status
refused_future status n rest c is future =
    subst (λ (st : Stage). FutureAt st n rest c) is.stage future ∙ ap (λ (t : List ℕ). writes t (ends (Refused status))) is.output

pub future_refused : (status : ℕ) (n : Machine) (rest : List ℕ) (c : Course) → IsRefusing status n → c ≡ refusing status → Future n rest c
future_refused status n rest c is e =
    subst (λ (st : Stage). FutureAt st n rest c) (sym is.stage) (e ∙ ap (λ (t : List ℕ). writes t (ends (Refused status))) (sym is.output))

-- ---- an answer

-- what follows the present answer
abbrev pub IsAnswered : Machine → Media → List ℕ → Bool → List ℕ → Course → Type 0
IsAnswered m media body close rest c = (go_on : Course) × Follows m.names m.left close (m.input ++ rest) go_on × (c ≡ answered media body (is_last m.left close) go_on)

serves_by : (m n : Machine) (rest : List ℕ) (c : Course) → n.names ≡ m.names → n.left ≡ m.left → n.input ≡ m.input
    → Serves n.names (n.left - 1) (n.input ++ rest) c → Serves m.names (m.left - 1) (m.input ++ rest) c
serves_by m n rest c names left input h =
    subst (λ (l : List ℕ). Serves m.names (m.left - 1) (l ++ rest) c) input
    (subst (λ (k : ℕ). Serves m.names (k - 1) (n.input ++ rest) c) left
    (subst (λ (l : List (List ℕ)). Serves l (n.left - 1) (n.input ++ rest) c) names h))

pub no_truth : IsTrue false → ⊥
no_truth h = cc

answered_case : (b : Bool) (m n : Machine) (media : Media) (body : List ℕ) (close : Bool) (rest : List ℕ) (c : Course) → is_last m.left close ≡ b
    → n.names ≡ m.names → n.left ≡ m.left → n.input ≡ m.input → n.output ≡ answer_text 200 media body b
    → FutureAt (Writing (next_of b)) n rest c → (go_on : Course) × Follows m.names m.left close (m.input ++ rest) go_on × (c ≡ answered media body b go_on)
answered_case true m n media body close rest c last names left input output future = (
  ends Ended,
  record { closes = λ t. refl; stays = λ e. absurd (let x = sym last ∙ e in cc) },
  future ∙ ap (λ (t : List ℕ). writes t (ends Ended)) output,
)
answered_case false m n media body close rest c last names left input output (go_on, serves, is) = (
  go_on,
  record { closes = λ t. absurd (no_truth (subst IsTrue last t)); stays = λ e. serves_by m n rest go_on names left input serves },
  is ∙ ap (λ (t : List ℕ). writes t go_on) output,
)

pub answered_future : (m n : Machine) (media : Media) (body : List ℕ) (close : Bool) (rest : List ℕ) (c : Course) → IsAnswering m media body close n → Future n rest c
    → IsAnswered m media body close rest c
answered_future m n media body close rest c is future =
    answered_case (is_last m.left close) m n media body close rest c refl is.names is.left is.input is.output
    (subst (λ (st : Stage). FutureAt st n rest c) is.stage future)

future_case : (b : Bool) (m n : Machine) (media : Media) (body : List ℕ) (close : Bool) (rest : List ℕ) (c go_on : Course) → is_last m.left close ≡ b
    → n.names ≡ m.names → n.left ≡ m.left → n.input ≡ m.input → n.output ≡ answer_text 200 media body b
    → Follows m.names m.left close (m.input ++ rest) go_on → c ≡ answered media body b go_on → FutureAt (Writing (next_of b)) n rest c
future_case true m n media body close rest c go_on last names left input output follows is =
    is ∙ ap (λ (t : List ℕ). writes t go_on) (sym output) ∙ ap (λ (d : Course). writes n.output d) (follows.closes (subst IsTrue (sym last) refl))
future_case false m n media body close rest c go_on last names left input output follows is = (
  go_on,
  serves_by n m rest go_on (sym names) (sym left) (sym input) (follows.stays last),
  is ∙ ap (λ (t : List ℕ). writes t go_on) (sym output),
)

pub future_answered : (m n : Machine) (media : Media) (body : List ℕ) (close : Bool) (rest : List ℕ) (c : Course) → IsAnswering m media body close n
    → IsAnswered m media body close rest c → Future n rest c
future_answered m n media body close rest c is (go_on, follows, e) =
    subst (λ (st : Stage). FutureAt st n rest c) (sym is.stage)
    (future_case (is_last m.left close) m n media body close rest c go_on refl is.names is.left is.input is.output follows e)
