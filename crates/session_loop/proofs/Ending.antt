-- A session whose source has ended.
use Rattle.std.proofs.Common.{◌≡◌, ◌-◌, ℕ, List, [], ◌++◌, length, take, drop, arith, Bool, true, false, refl, sym, ap, subst, ◌∙◌}
use Rattle.std.specs.Prelude.{if◌then◌else◌}
use Rattle.std.specs.List.{list_any}
use Rattle.std.proofs.lemmas.Grind.{common_steps}
use Rattle.std.proofs.lemmas.List.{append-nil}
use Rattle.http_head.specs.Heads.{is_text, FindsHeadEnd}
use Rattle.http_head.specs.declared.head.HeadEnd.TheVariants.{More}
use Rattle.http_head.specs.declared.target.Route.{Route}
use Rattle.session_loop.specs.Cutting.{Ending, Request, cut_off, ended, nothing, open_head, open_body, StopsInBody, Cut}
use Rattle.session_loop.specs.Courses.{Course, ends, ending_course, course}
use Rattle.session_loop.specs.Sessions.{Machine, Serves, BodyServes, stops, whole, FutureAt, SettledAt, WantsIs, EndIs}
use Rattle.session_loop.specs.declared.want.SessionEnd.{SessionEnd}
use Rattle.session_loop.specs.declared.want.SessionEnd.TheVariants.{Ended, CutOff}
use Rattle.session_loop.specs.declared.want.Want.TheVariants.{Bytes}
use Rattle.session_loop.specs.declared.stage.Stage.{Stage}
use Rattle.session_loop.specs.declared.stage.Stage.TheVariants.{Heading, InBody, Timing, Running, Filing, Fronting, Writing, Over}
use Rattle.session_loop.proofs.OneCut.{cut_is_one, body_ends_once, body_stops_or_not}

-- what a slice up to the end is
pub rest_is : (l : List ℕ) (n : ℕ) → take (length l - n) (drop n l) ≡ drop n l
rest_is l n = grind (arith, common_steps)

-- how it ends between two requests, or inside a head
abbrev at_head : Bool → Ending
at_head b = if b then cut_off else ended

heading_cut : (b : Bool) (m : Machine) → list_any is_text m.input ≡ b → FindsHeadEnd m.input More → Cut m.names m.left m.input [] (at_head b)
heading_cut true m is found = open_head found.0 found.1 is
heading_cut false m is found = nothing found.0 is

end_at_head : (b : Bool) → ending_course (at_head b) ≡ ends (if b then CutOff else Ended)
end_at_head true = refl
end_at_head false = refl

heading : (b : Bool) (m : Machine) → list_any is_text m.input ≡ b → FindsHeadEnd m.input More → Serves m.names m.left m.input (ends (if b then CutOff else Ended))
heading b m is found = ([], at_head b, heading_cut b m is found, sym (end_at_head b))

pub ends_at : (stage : Stage) (m : Machine) (e : SessionEnd) → SettledAt stage m → WantsIs stage Bytes → EndIs stage m.input e → FutureAt stage m [] (ends e)
ends_at Heading m e settled wants is =
    subst (λ (l : List ℕ). Serves m.names m.left l (ends e)) (sym (append-nil m.input))
    (subst (λ (x : SessionEnd). Serves m.names m.left m.input (ends x)) (sym is) (heading (list_any is_text m.input) m refl settled))
ends_at (InBody route close) m e settled wants is =
    subst (λ (x : SessionEnd). BodyServes m route close [] (ends x)) (sym is) (stops cut_off (open_body m.body (settled.0, refl)) refl)
ends_at (Timing route close) m e settled wants is = absurd cc
ends_at (Running doc close) m e settled wants is = absurd cc
ends_at (Filing doc close) m e settled wants is = absurd cc
ends_at (Fronting doc close) m e settled wants is = absurd cc
ends_at (Writing next) m e settled wants is = absurd cc
ends_at (Over end) m e settled wants is = absurd cc

-- ---- and in no other way

only_heading : (b : Bool) (m : Machine) (c : Course) → list_any is_text m.input ≡ b → FindsHeadEnd m.input More → Serves m.names m.left m.input c → c ≡ ends (if b then CutOff else Ended)
only_heading b m c is found (requests, ending, cut, e) =
    let one = cut_is_one requests [] m.names m.left m.input ending (at_head b) cut (heading_cut b m is found) in
    e ∙ ap (λ (l : List Request). course m.names m.left l ending) one.0 ∙ ap ending_course one.1 ∙ end_at_head b

only_in_body : (m : Machine) (route : Route) (close : Bool) (c : Course) → StopsInBody route m.body [] cut_off → BodyServes m route close [] c → c ≡ ends CutOff
only_in_body m route close c open_there (stops ending s e) = e ∙ ap ending_course (body_ends_once route m.body [] ending cut_off s open_there)
only_in_body m route close c open_there (whole used body wish is w j) = absurd (body_stops_or_not route m.body [] body used wish cut_off open_there is w)

pub ends_only : (stage : Stage) (m : Machine) (e : SessionEnd) → SettledAt stage m → WantsIs stage Bytes → EndIs stage m.input e → (c : Course) → FutureAt stage m [] c → c ≡ ends e
ends_only Heading m e settled wants is c future =
    only_heading (list_any is_text m.input) m c refl settled (subst (λ (l : List ℕ). Serves m.names m.left l c) (append-nil m.input) future) ∙ ap ends (sym is)
ends_only (InBody route close) m e settled wants is c future = only_in_body m route close c (open_body m.body (settled.0, refl)) future ∙ ap ends (sym is)
ends_only (Timing route close) m e settled wants is c future = absurd cc
ends_only (Running doc close) m e settled wants is c future = absurd cc
ends_only (Filing doc close) m e settled wants is c future = absurd cc
ends_only (Fronting doc close) m e settled wants is c future = absurd cc
ends_only (Writing next) m e settled wants is c future = absurd cc
ends_only (Over end) m e settled wants is c future = absurd cc

-- what a slice from this place on is
pub slice_is : (l k input : List ℕ) (from : ℕ) → l ≡ k → drop from k ≡ input → take (length l - from) (drop from l) ≡ input
slice_is l k input from e f = rest_is l from ∙ ap (drop from) e ∙ f

-- what the input is with a piece
pub piece_behind : (l input piece k : List ℕ) (from : ℕ) → drop from l ≡ input → k ≡ drop from l ++ piece → k ≡ input ++ piece
piece_behind l input piece k from is e = e ∙ ap (λ (x : List ℕ). x ++ piece) is
