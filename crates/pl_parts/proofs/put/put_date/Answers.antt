use Rattle.std.proofs.Common.{w32}
use Rattle.std.proofs.lemmas.Int.{to_z-of_z}
use Rattle.pl_parts.proofs.Dates.{dated}
use Rattle.pl_parts.proofs.put.put_date.Goals as goal

pub write_day-requires : goal.write_day-requires
write_day-requires c = rw (to_z-of_z w32 c.args.day c.ranges.day) (dated c.args.day c.requires)
