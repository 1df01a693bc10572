-- Ids that the tests call equal are equal, and each is equal to itself.
use Rattle.std.proofs.Common.{◌≡◌, ℕ, refl, ◌∙◌, ap, Bool, true, false, ◌&&◌, ◌==◌, nat_eq}
use Rattle.compact_values.specs.declared.guid.Guid.{Guid}
use Rattle.compact_values.specs.declared.ids.ExGuid.{ExGuid}
use Rattle.compact_values.specs.declared.ids.ExGuid.TheVariants.{Null, Id}
use Rattle.compact_values.specs.declared.ids.CellId.{CellId}
use Rattle.compact_values.specs.SameIds.{same_guid, same_id, same_cell}
use Rattle.std.proofs.Common.{arith}
use Rattle.std.proofs.lemmas.Bool.Decides.{nat_tests}

pub both : (a b : Bool) → (a && b) ≡ true → (a ≡ true) × (b ≡ true)
both true b h = (refl, h)
both false b h = cc

pub number : (a b : ℕ) → nat_eq a b ≡ true → a ≡ b
number a b h = grind (arith, nat_tests)

pub guid-same : (a b : Guid) → same_guid a b ≡ true → a ≡ b
guid-same a b h = ap (λ (n : ℕ). record { number = n }) (number a.number b.number h)

pub id-same : (a b : ExGuid) → same_id a b ≡ true → a ≡ b
id-same Null Null h = refl
id-same Null (Id g v) h = cc
id-same (Id g v) Null h = cc
id-same (Id g v) (Id k w) h =
    let t = both (same_guid g k) (nat_eq v w) h in
    let e = guid-same g k t.0 in
    let f = number v w t.1 in
    cc

pub cell-same : (a b : CellId) → same_cell a b ≡ true → a ≡ b
cell-same a b h =
    let t = both (same_id a.first b.first) (same_id a.second b.second) h in
    ap (λ (x : ExGuid). record { first = x; second = a.second }) (id-same a.first b.first t.0)
    ∙ ap (λ (y : ExGuid). record { first = b.first; second = y }) (id-same a.second b.second t.1)

pub reflexive : (a : ℕ) → nat_eq a a ≡ true
reflexive a = grind (arith, nat_tests)

pub same-guid : (a : Guid) → same_guid a a ≡ true
same-guid a = reflexive a.number

pub same-id : (a : ExGuid) → same_id a a ≡ true
same-id Null = refl
same-id (Id g v) = rw (same-guid g) (reflexive v)

pub same-cell : (a : CellId) → same_cell a a ≡ true
same-cell a = rw (same-id a.first) (same-id a.second)

-- the tests don't depend on the order
swapped : (a b : ℕ) → nat_eq a b ≡ nat_eq b a
swapped a b = grind (arith, nat_tests)

pub id-swap : (a b : ExGuid) → same_id a b ≡ same_id b a
id-swap Null Null = refl
id-swap Null (Id g v) = refl
id-swap (Id g v) Null = refl
id-swap (Id g v) (Id h w) = ap (λ t. t && (v == w)) (swapped g.number h.number) ∙ ap (λ t. same_guid h g && t) (swapped v w)
