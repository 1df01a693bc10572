-- The order of ids.
use Rattle.std.proofs.Common.{◌≡◌, refl, true, false, arith}
use Rattle.std.proofs.lemmas.Bool.Decides.{nat_tests}
use Rattle.compact_values.specs.declared.ids.ExGuid.{ExGuid}
use Rattle.compact_values.specs.declared.ids.ExGuid.TheVariants.{Null, Id}
use Rattle.compact_values.specs.SameIds.{same_id}
use Rattle.element_store.specs.Ordered.{comes_first}

pub first-trans : (a b c : ExGuid) → comes_first a b ≡ true → comes_first b c ≡ true → comes_first a c ≡ true
first-trans Null Null c h k = cc
first-trans Null (Id g v) Null h k = cc
first-trans Null (Id g v) (Id i x) h k = refl
first-trans (Id g v) Null c h k = cc
first-trans (Id g v) (Id j w) Null h k = cc
first-trans (Id g v) (Id j w) (Id i x) h k = grind (arith, nat_tests)

-- an id that comes before another differs from it
pub first-differs : (a b : ExGuid) → comes_first a b ≡ true → same_id a b ≡ false
first-differs Null Null h = cc
first-differs Null (Id g v) h = refl
first-differs (Id g v) Null h = refl
first-differs (Id g v) (Id j w) h = grind (arith, nat_tests)

-- of two that differ one comes first
pub other-first : (a b : ExGuid) → comes_first a b ≡ false → same_id a b ≡ false → comes_first b a ≡ true
other-first Null Null h k = cc
other-first Null (Id g v) h k = cc
other-first (Id g v) Null h k = refl
other-first (Id g v) (Id j w) h k = grind (arith, nat_tests)

-- what comes behind one that isn't before an id differs from the id
pub behind-differs : (a b c : ExGuid) → comes_first a b ≡ true → comes_first a c ≡ false → same_id b c ≡ false
behind-differs Null Null c h k = cc
behind-differs Null (Id g v) Null h k = refl
behind-differs Null (Id g v) (Id i x) h k = cc
behind-differs (Id g v) Null c h k = cc
behind-differs (Id g v) (Id j w) Null h k = refl
behind-differs (Id g v) (Id j w) (Id i x) h k = grind (arith, nat_tests)
