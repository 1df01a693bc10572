use Rattle.std.proofs.Common.{◌≡◌, [], drop}
use Rattle.std.specs.Prelude.{filter}
use Rattle.stream_objects.specs.Objects.{is_kind}
use Rattle.data_elements.specs.Checking.{collect_from}
use Rattle.wire_kinds.specs.Row.{row_at}
use Rattle.data_elements.proofs.collect.collect.Given as goal

abbrev pub invariant-loop-tree : goal.invariant-loop-tree
invariant-loop-tree g l = collect_from (row_at g.R.Decode.takes) l.bytes l.values (filter (is_kind l.kind) (drop l.tree-index l.trees)) ≡ collect_from (row_at g.R.Decode.takes) l.bytes [] (filter (is_kind l.kind) l.trees)
