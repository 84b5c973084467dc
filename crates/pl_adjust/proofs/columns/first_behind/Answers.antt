use Rattle.std.proofs.Common.{rules, nat_le}
use Rattle.std.proofs.lemmas.List.Sorted.{IsPartitionPoint-from_clause, IsPartitionedBy-leb}
use Rattle.pl_adjust.proofs.columns.first_behind.Goals as goal

pub returns : goal.returns
returns c = (
  c.partition_point.ensures.bound,
  IsPartitionPoint-from_clause (λ x. nat_le x c.args.col) _ _ c.partition_point.ensures.partitioned (IsPartitionedBy-leb (λ x. x) c.args.cols.now c.args.col c.requires) (λ a r q k. search rules),
)
