-- What is found by its id among items whose ids have consecutive values.
use Rattle.std.proofs.Common.{◌≡◌, ℕ, zero, suc, ◌+◌, ◌<◌, true, false, ◌==◌, List, [], ◌∷◌, length, map, refl, arith}
use Rattle.std.specs.Prelude.{find, slice_get}
use Rattle.std.specs.List.{AllByRecursion, IsDistinct, range_with_len}
use Rattle.std.proofs.lemmas.Bool.Decides.{nat_tests}
use Rattle.compact_values.specs.declared.guid.Guid.{Guid}
use Rattle.compact_values.specs.declared.ids.ExGuid.{ExGuid}
use Rattle.compact_values.specs.SameIds.{same_id}
use Rattle.compact_values.proofs.SameIds.{same-guid, same-id}
use Rattle.file_nodes.specs.Chunks.{id_of}

differ : (v w : ℕ) → (v ≡ w → ⊥) → v == w ≡ false
differ v w ne = grind (arith, nat_tests)

-- ids with other values are not the same
apart : (guid : Guid) (v w : ℕ) → (v ≡ w → ⊥) → same_id (id_of guid v) (id_of guid w) ≡ false
apart guid v w ne = rw (same-guid guid) (differ v w ne)

-- the item with the k-th value is the k-th, where there is one
pub find-consecutive : {X : Type 0} (id_at : X → ExGuid) (guid : Guid) (v w k : ℕ) (xs : List X) → map id_at xs ≡ map (id_of guid) (range_with_len v (length xs)) → w ≡ v + k
    → find (λ x. same_id (id_at x) (id_of guid w)) xs ≡ slice_get xs k
find-consecutive {X} id_at guid v w k [] e f = refl
find-consecutive {X} id_at guid v w zero (x ∷ xs) e f =
    let here : id_at x ≡ id_of guid v = cc in
    let value : w ≡ v = omega arith in
    let same : same_id (id_at x) (id_of guid w) ≡ true = rw (here, value) (same-id (id_of guid v)) in
    rw same
find-consecutive {X} id_at guid v w (suc k) (x ∷ xs) e f =
    let here : id_at x ≡ id_of guid v = cc in
    let others : map id_at xs ≡ map (id_of guid) (range_with_len (v + 1) (length xs)) = cc in
    let other : same_id (id_at x) (id_of guid w) ≡ false = rw here (apart guid v w (λ same. omega arith)) in
    rw other (find-consecutive id_at guid (v + 1) w k xs others (omega arith))

-- consecutive ids differ
later-differ : (guid : Guid) (v w n : ℕ) → v < w → AllByRecursion (λ x. same_id (id_of guid v) x ≡ false) (map (id_of guid) (range_with_len w n))
later-differ guid v w zero h = tt
later-differ guid v w (suc n) h = (apart guid v w (λ e. omega arith), later-differ guid v (w + 1) n (omega arith))

pub distinct-consecutive : (guid : Guid) (v n : ℕ) → IsDistinct same_id (map (id_of guid) (range_with_len v n))
unfolding IsDistinct
distinct-consecutive guid v zero = tt
distinct-consecutive guid v (suc n) = (later-differ guid v (v + 1) n (omega arith), distinct-consecutive guid (v + 1) n)
