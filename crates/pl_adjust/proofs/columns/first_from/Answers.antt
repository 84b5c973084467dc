use Rattle.std.proofs.Common.{rules, nat_lt}
use Rattle.std.proofs.lemmas.List.Sorted.{IsPartitionPoint-from_clause, IsPartitionedBy-ltb}
use Rattle.pl_adjust.proofs.columns.first_from.Goals as goal

pub returns : goal.returns
returns c = (
  c.partition_point.ensures.bound,
  IsPartitionPoint-from_clause (λ x. nat_lt x c.args.col) _ _ c.partition_point.ensures.partitioned (IsPartitionedBy-ltb (λ x. x) c.args.cols.now c.args.col c.requires) (λ a r q k. search rules),
)
