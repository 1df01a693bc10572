use Rattle.std.proofs.Common.{◌≡◌, drop, fold}
use Rattle.compact_values.specs.IdPlaces.{with_new}
use Rattle.compact_values.specs.SameIds.{same_id}
use Rattle.compact_values.proofs.id_index.IdIndex.join_all.Given as goal

-- what is left joins what is there
abbrev pub invariant-loop-id : goal.invariant-loop-id
invariant-loop-id l = fold (with_new same_id) l.self (drop l.id-index l.ids) ≡ fold (with_new same_id) l.fn.self l.ids
