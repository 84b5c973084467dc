use Rattle.std.proofs.Common.{rules, w32, FitsSigned}
use Rattle.std.specs.Int.RustNames.{int_le}
use Rattle.std.proofs.lemmas.List.Sorted.{IsPartitionPoint-from_clause}
use Rattle.pl_adjust.proofs.Between.{parted}
use Rattle.pl_runner.proofs.Puts.{up-to-front}
use Rattle.pl_runner.proofs.news.up_to.Goals as goal

pub returns : goal.returns
returns c =
    let fits : FitsSigned w32 c.args.day = c.ranges.day in
    let list = c.args.adjusts.now in
    up-to-front c.args.day list c.partition_point.result
    (IsPartitionPoint-from_clause (λ a. int_le a.day c.args.day) _ _ c.partition_point.ensures.partitioned (parted c.args.day list c.requires) (λ a r q k. search rules))
    c.partition_point.ensures.bound
