use Rattle.std.proofs.Common.{◌≡◌, [], drop}
use Rattle.std.specs.Prelude.{filter}
use Rattle.stream_objects.specs.Objects.{is_kind}
use Rattle.data_elements.specs.NumberedReading.{numbered_from}
use Rattle.data_elements.proofs.numbered.read_each.Given as goal

abbrev pub invariant-loop-tree : goal.invariant-loop-tree
invariant-loop-tree l = numbered_from l.bytes l.elements (filter (is_kind 0x01) (drop l.tree-index l.trees)) ≡ numbered_from l.bytes [] (filter (is_kind 0x01) l.trees)
