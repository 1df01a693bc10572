-- The last commit of a document, whose index is the stored one.
use Rattle.std.proofs.Common.{◌≡◌, ◌≢◌, ℕ, zero, suc, ◌-◌, refl, ◌∙◌, ap, subst, Bool, true, false, cond, ◌==◌, List, [], ◌∷◌, ◌++◌, get_or, length, Option, Some, None, option_map, unwrap_or, arith}
use Rattle.std.proofs.lemmas.Bool.Decides.{nat_tests}
use Rattle.std.proofs.lemmas.List.{append-nil, get_or_push, length-append, length_push}
use Rattle.std.proofs.lemmas.Option.{slice_get-get_or, slice_get_within, get_or_from_slice_get}
use Rattle.std.specs.List.{All, slice_get}
use Rattle.compact_values.specs.declared.ids.ExGuid.TheVariants.{Null}
use Rattle.doc_model.specs.declared.doc.Commit.{Commit}
use Rattle.doc_model.specs.rules.Pulls.{stored_index}
use Rattle.doc_model.specs.rules.Versions.{version}

pub some-commits : (cs : List Commit) → cs ≢ [] → (length cs == 0) ≡ false
some-commits [] h = absurd (h refl)
some-commits (c ∷ cs) h = grind (arith, nat_tests)

-- where there is a commit there is a last one, at the last place, and its index is the stored one
pub last-commit : (cs : List Commit) → cs ≢ [] → (c : Commit) × (slice_get cs (length cs - 1) ≡ Some c) × (stored_index cs ≡ c.index)
last-commit [] h = absurd (h refl)
last-commit (x ∷ xs) h =
    let e = slice_get-get_or (x ∷ xs) (length (x ∷ xs) - 1) x (omega arith) in
    (get_or (x ∷ xs) (length (x ∷ xs) - 1) x, e, ap (λ (o : Option Commit). unwrap_or (option_map (λ c. c.index) o) Null) e)

-- a commit that comes last is the last one
pub stored-push : (cs : List Commit) (c : Commit) → stored_index (cs ++ c ∷ []) ≡ c.index
stored-push cs c =
    let last = length (cs ++ c ∷ []) - 1 in
    ap (λ (o : Option Commit). unwrap_or (option_map (λ x. x.index) o) Null)
    (slice_get-get_or (cs ++ c ∷ []) last c (omega (arith, length_push cs c)) ∙ ap (λ (x : Commit). Some x) (get_or_push cs c c last (omega (arith, length_push cs c))))

-- what holds of all holds at a place
pub All-slice : {X : Type 0} (P : X → Type 0) (xs : List X) (i : ℕ) (x : X) → All P xs → slice_get xs i ≡ Some x → P x
All-slice P xs i x h e = subst P (get_or_from_slice_get xs i x x e) (h i x (slice_get_within xs i x e))

-- and of a version
pub All-version : (P : Commit → Type 0) (cs : List Commit) (number : ℕ) (c : Commit) → All P cs → version cs number ≡ Some c → P c
All-version P cs number c h e = at (number == 0) e
  where
    at : (b : Bool) → cond b None (slice_get cs (number - 1)) ≡ Some c → P c
    at true e = cc
    at false e = All-slice P cs (number - 1) c h e

-- a place of the front is one of the whole
pub slice-front : {X : Type 0} (xs ys : List X) (i : ℕ) (x : X) → slice_get xs i ≡ Some x → slice_get (xs ++ ys) i ≡ Some x
slice-front [] ys i x e = cc
slice-front (y ∷ xs) ys zero x e = e
slice-front (y ∷ xs) ys (suc i) x e = slice-front xs ys i x e

-- no more items, where the last place is the same
pub nothing-more : {X : Type 0} (xs ys : List X) → xs ≢ [] → length (xs ++ ys) - 1 ≡ length xs - 1 → xs ++ ys ≡ xs
nothing-more xs [] some e = append-nil xs
nothing-more [] (y ∷ ys) some e = absurd (some refl)
nothing-more (x ∷ xs) (y ∷ ys) some e = absurd (omega (arith, e, length-append xs (y ∷ ys)))
