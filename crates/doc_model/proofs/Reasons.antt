-- Nothing is refused exactly where none of the reasons holds; and what the tests say that don't hold.
use Rattle.std.proofs.Common.{◌≡◌, ◌⊎◌, ℕ, ◌≤◌, refl, Bool, true, false, not, ◌&&◌, ◌||◌, List, [], ◌∷◌, None, nat_lt, inl, inr, arith}
use Rattle.std.proofs.lemmas.Bool.Decides.{nat_tests}
use Rattle.doc_model.specs.declared.reply.Code.{Code}
use Rattle.doc_model.specs.rules.Effects.{first_refusal}

-- none of the reasons holds
abbrev pub NoneHolds : List (Bool × Code) → Type 0
NoneHolds [] = Unit {0}
NoneHolds (r ∷ rs) = (r.0 ≡ false) × NoneHolds rs

-- where nothing is refused, no reason holds
pub none-holds : (rs : List (Bool × Code)) → first_refusal rs ≡ None → NoneHolds rs
none-holds [] h = tt
none-holds ((false, c) ∷ rs) h = (refl, none-holds rs h)
none-holds ((true, c) ∷ rs) h = cc

-- and where none of the reasons holds, nothing is refused
pub no-refusal : (rs : List (Bool × Code)) → NoneHolds rs → first_refusal rs ≡ None
no-refusal [] h = refl
no-refusal ((false, c) ∷ rs) h = no-refusal rs h.1
no-refusal ((true, c) ∷ rs) h = cc

pub not-false : (b : Bool) → not b ≡ false → b ≡ true
not-false true h = refl
not-false false h = cc

pub not-true : (b : Bool) → not b ≡ true → b ≡ false
not-true false h = refl
not-true true h = cc

pub and-both : (a b : Bool) → (a && b) ≡ true → (a ≡ true) × (b ≡ true)
and-both true b h = (refl, h)
and-both false b h = cc

pub or-either : (a b : Bool) → (a || b) ≡ true → (a ≡ true) ⊎ (b ≡ true)
or-either true b h = inl refl
or-either false b h = inr h

pub or-neither : (a b : Bool) → (a || b) ≡ false → (a ≡ false) × (b ≡ false)
or-neither true b h = cc
or-neither false b h = (refl, h)

-- a number that isn't less
pub not-less : (a b : ℕ) → nat_lt a b ≡ false → b ≤ a
not-less a b h = grind (arith, nat_tests)
