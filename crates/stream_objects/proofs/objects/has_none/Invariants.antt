use Rattle.std.proofs.Common.{◌≡◌, drop}
use Rattle.std.specs.Prelude.{filter}
use Rattle.stream_objects.specs.Objects.{is_kind}
use Rattle.stream_objects.proofs.objects.has_none.Given as goal

abbrev pub invariant-loop-child : goal.invariant-loop-child
invariant-loop-child l = filter (is_kind l.kind) (drop l.child-index l.trees) ≡ filter (is_kind l.kind) l.trees
