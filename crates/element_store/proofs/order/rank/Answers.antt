use Rattle.std.proofs.Common.{rules}
use Rattle.std.proofs.lemmas.List.Sorted.{IsPartitionPoint-from_clause}
use Rattle.element_store.specs.Ordered.{comes_first, id_at}
use Rattle.element_store.proofs.Ranks.{parted, point}
use Rattle.element_store.proofs.order.rank.Goals as goal

pub returns-clause-rank : goal.returns-clause-rank
returns-clause-rank c =
    let at = id_at c.args.elements.now in
    point at c.args.order.now c.args.id c.partition_point.result c.partition_point.ensures.bound
    (IsPartitionPoint-from_clause (λ p. comes_first (at p) c.args.id) _ _ c.partition_point.ensures.partitioned (parted at c.args.order.now c.args.id c.requires) (λ a r q k. search rules))
