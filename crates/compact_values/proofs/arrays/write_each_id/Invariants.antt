use Rattle.std.proofs.Common.{◌≡◌, ◌++◌, take}
use Rattle.std.specs.List.{flat_map}
use Rattle.compact_values.specs.Ids.{exguid}
use Rattle.compact_values.proofs.arrays.write_each_id.Given as goal

-- the items before this one are written
abbrev pub invariant-loop-id : goal.invariant-loop-id
invariant-loop-id l = l.out ≡ l.initial.out ++ flat_map exguid (take l.id-index l.ids)
