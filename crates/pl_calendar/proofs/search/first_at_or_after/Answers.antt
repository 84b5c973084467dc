use Rattle.std.proofs.Common.{rules}
use Rattle.std.specs.Int.RustNames.{int_lt}
use Rattle.std.proofs.lemmas.List.Sorted.{IsPartitionPoint-from_clause}
use Rattle.pl_calendar.proofs.DaySearch.{found_first, found_none, parted}
use Rattle.pl_calendar.proofs.search.first_at_or_after.Goals as goal

pub returns-then-i-days-clause-exact : goal.returns-then-i-days-clause-exact
returns-then-i-days-clause-exact c =
    found_first c.args.day c.args.days.now c.partition_point-i.result c.if-i-days.true
    (IsPartitionPoint-from_clause (λ d. int_lt d c.args.day) _ _ c.partition_point-i.ensures.partitioned (parted c.args.day c.args.days.now c.requires) (λ a r q k. search rules))

pub returns-else-i-days-clause-exact : goal.returns-else-i-days-clause-exact
returns-else-i-days-clause-exact c =
    found_none c.args.day c.args.days.now c.partition_point-i.result c.partition_point-i.ensures.bound c.if-i-days.false
    (IsPartitionPoint-from_clause (λ d. int_lt d c.args.day) _ _ c.partition_point-i.ensures.partitioned (parted c.args.day c.args.days.now c.requires) (λ a r q k. search rules))
