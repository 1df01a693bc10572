use Rattle.std.proofs.Common.{◌≡◌, drop}
use Rattle.std.specs.Prelude.{filter, ◌||◌}
use Rattle.stream_objects.specs.Objects.{is_kind}
use Rattle.data_elements.specs.Checking.{check_members}
use Rattle.data_elements.proofs.check.check_both.Given as goal

abbrev pub invariant-loop-tree : goal.invariant-loop-tree
invariant-loop-tree l =
    check_members l.bytes (filter (λ c. is_kind l.first c || is_kind l.second c) (drop l.tree-index l.trees)) ≡ check_members l.bytes (filter (λ c. is_kind l.first c || is_kind l.second c) l.trees)
