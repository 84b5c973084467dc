use Rattle.std.proofs.Common.{rules}
use Rattle.std.proofs.lemmas.List.Sorted.{IsPartitionPoint-from_clause}
use Rattle.pl_bars.specs.Bars.{is_before}
use Rattle.pl_bars.proofs.BarSearch.{parted}
use Rattle.pl_bars.proofs.search.point_of.Goals as goal

pub returns-clause-point : goal.returns-clause-point
returns-clause-point c =
    IsPartitionPoint-from_clause (is_before c.args.col c.args.session) _ _ c.partition_point.ensures.partitioned
    (parted c.args.col c.args.session c.args.rows.now c.requires) (λ a r q k. search rules)
