use Rattle.std.proofs.Common.{rules}
use Rattle.std.proofs.lemmas.List.Sorted.{IsPartitionPoint-from_clause}
use Rattle.knowledge_set.specs.Maximal.{is_apart}
use Rattle.knowledge_set.proofs.Placing.{parted, point}
use Rattle.knowledge_set.proofs.joining.place.Goals as goal

pub returns-clause-place : goal.returns-clause-place
returns-clause-place c =
    point c.args.ranges.now c.args.range.now c.partition_point.result c.partition_point.ensures.bound
    (IsPartitionPoint-from_clause (λ r. is_apart r c.args.range.now) _ _ c.partition_point.ensures.partitioned (parted c.args.ranges.now c.args.range.now c.requires) (λ a r q k. search rules))
