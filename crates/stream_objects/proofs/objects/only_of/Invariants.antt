use Rattle.std.proofs.Common.{◌≡◌, drop}
use Rattle.std.specs.Prelude.{filter}
use Rattle.std.specs.Option.{option_copied}
use Rattle.stream_objects.specs.Objects.{is_kind}
use Rattle.stream_objects.specs.ObjectFields.{single, single_with}
use Rattle.stream_objects.proofs.objects.only_of.Given as goal

abbrev pub invariant-loop-child : goal.invariant-loop-child
invariant-loop-child l = single_with (option_copied l.found) (filter (is_kind l.kind) (drop l.child-index l.trees)) ≡ single (filter (is_kind l.kind) l.trees)
