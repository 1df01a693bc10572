-- Writers that append in steps.
use Rattle.std.proofs.Common.{◌≡◌, ℕ, List, ◌++◌, length, take, drop, Result, Ok, Err, OnOk, OnErr, sym, ap, ◌∙◌, append_assoc}
use Rattle.std.proofs.lemmas.List.{take_at, take-append-drop}

-- two steps make one
pub appended : {T E : Type 0} (r : Result T E) (old middle new first second : List ℕ) → middle ≡ old ++ first → OnOk r (new ≡ middle ++ second) → OnOk r (new ≡ old ++ (first ++ second))
appended (Ok x) old middle new first second e f = f ∙ ap (λ (l : List ℕ). l ++ second) e ∙ append_assoc old first second
appended (Err x) old middle new first second e f = tt

-- what is cut back to its old length is as before
pub cut_back : {T E : Type 0} (r : Result T E) (old middle new back more : List ℕ) (n : ℕ) → n ≡ length old → middle ≡ old ++ more → OnErr r (take (length middle) new ≡ middle) → back ≡ take n new → OnErr r (back ≡ old)
cut_back (Ok x) old middle new back more n len e f g = tt
cut_back (Err x) old middle new back more n len e f g =
    let rest = drop (length middle) new in
    let parts : new ≡ old ++ (more ++ rest) = sym (take-append-drop (length middle) new) ∙ ap (λ (l : List ℕ). l ++ rest) (f ∙ e) ∙ append_assoc old more rest in
    g ∙ ap (λ (l : List ℕ). take n l) parts ∙ take_at old (more ++ rest) n (sym len)
