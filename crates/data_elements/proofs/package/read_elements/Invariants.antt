use Rattle.std.proofs.Common.{◌≡◌, [], drop}
use Rattle.std.specs.Prelude.{filter}
use Rattle.stream_objects.specs.Objects.{is_kind}
use Rattle.data_elements.specs.Reading.{elements_from}
use Rattle.data_elements.proofs.package.read_elements.Given as goal

abbrev pub invariant-loop-tree : goal.invariant-loop-tree
invariant-loop-tree l = elements_from l.bytes l.elements (filter (is_kind 0x01) (drop l.tree-index l.trees)) ≡ elements_from l.bytes [] (filter (is_kind 0x01) l.trees)
