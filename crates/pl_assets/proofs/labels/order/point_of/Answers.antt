use Rattle.std.proofs.Common.{rules, nat_le}
use Rattle.std.proofs.lemmas.List.Sorted.{IsPartitionPoint-from_clause}
use Rattle.pl_assets.specs.LabelPlaces.{key_at}
use Rattle.pl_assets.proofs.LabelOrder.{parted}
use Rattle.pl_assets.proofs.labels.order.point_of.Goals as goal

pub returns-clause-point : goal.returns-clause-point
returns-clause-point c =
    IsPartitionPoint-from_clause (λ i. nat_le (key_at c.args.places.now i) c.args.key) _ _ c.partition_point.ensures.partitioned
    (parted (key_at c.args.places.now) c.args.key c.args.order.now c.requires) (λ a r q k. search rules)
