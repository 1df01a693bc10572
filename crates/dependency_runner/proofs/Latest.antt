-- The latest of a token, as a loop from the front finds it.
use Rattle.std.proofs.Common.{◌≡◌, ◌↔◌, ℕ, ◌<◌, ◌+◌, Bool, List, ◌∷◌, length, get_or, drop, cond, Option, Some, None, refl, sym, ap, ◌∙◌}
use Rattle.std.specs.Prelude.{IsTrue}
use Rattle.std.specs.Str.{bytes_eq}
use Rattle.std.proofs.lemmas.Bool.Decides.{same_from_decides}
use Rattle.std.proofs.lemmas.List.{drop_more}
use Rattle.std.proofs.lemmas.Slice.Eq.{bytes_eq-Decides}
use Rattle.dependency_runner.specs.declared.state.Before.{Before}
use Rattle.dependency_runner.specs.declared.state.State.{State}
use Rattle.dependency_runner.specs.Deciding.{latest, or_else}

or_else-assoc : (a b c : Option State) → or_else (or_else a b) c ≡ or_else a (or_else b c)
or_else-assoc (Some x) b c = refl
or_else-assoc None b c = refl

-- the i-th is looked at, of which `r` tells whether it has the token
pub looked_at : (token : List ℕ) (earlier : List Before) (i : ℕ) (b : Before) (r : Bool) (found new : Option State) → i < length earlier → b ≡ get_or earlier i b → (IsTrue r ↔ (b.token ≡ token))
    → new ≡ or_else (cond r (Some b.state) None) found → or_else (latest token (drop i earlier)) found ≡ latest token earlier → or_else (latest token (drop (i + 1) earlier)) new ≡ latest token earlier
looked_at token earlier i b r found new lt is tells new_is so_far =
    let rest = drop (i + 1) earlier in
    let test : r ≡ bytes_eq b.token token = same_from_decides r (bytes_eq b.token token) tells (bytes_eq-Decides b.token token) in
    let here : drop i earlier ≡ b ∷ rest = drop_more earlier i b lt ∙ ap (λ (x : Before). x ∷ rest) (sym is) in
    let this : new ≡ or_else (cond (bytes_eq b.token token) (Some b.state) None) found = new_is ∙ ap (λ (t : Bool). or_else (cond t (Some b.state) None) found) test in
    ap (or_else (latest token rest)) this ∙ sym (or_else-assoc (latest token rest) (cond (bytes_eq b.token token) (Some b.state) None) found)
    ∙ ap (λ (l : List Before). or_else (latest token l) found) (sym here) ∙ so_far
