use Rattle.std.proofs.Common.{◌≡◌, ◌+◌, ◌*◌, ◌≤◌, length, take}
use Rattle.std.specs.List.{flat_map}
use Rattle.compact_values.specs.Compact.{compact}
use Rattle.compact_values.specs.Ids.{exguid}
use Rattle.doc_model.proofs.sizes.ids_size.Given as goal

-- what the items before this one take, behind the count
abbrev pub invariant-loop-id : goal.invariant-loop-id
invariant-loop-id l = (l.size ≡ length (compact (length l.ids)) + length (flat_map exguid (take l.id-index l.ids))) × (l.size ≤ 9 + 21 * l.id-index)
