use Rattle.std.proofs.Common.{rules, nat_le}
use Rattle.std.proofs.lemmas.List.Sorted.{IsPartitionPoint-from_clause}
use Rattle.pl_numbers.specs.NumberPlaces.{key_of}
use Rattle.pl_assets.proofs.LabelOrder.{parted}
use Rattle.pl_numbers.proofs.search.point_of.Goals as goal

pub returns-clause-point : goal.returns-clause-point
returns-clause-point c =
    IsPartitionPoint-from_clause (λ p. nat_le (key_of p) c.args.key) _ _ c.partition_point.ensures.partitioned
    (parted key_of c.args.key c.args.places.now c.requires) (λ a r q k. search rules)
