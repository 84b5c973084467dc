use Rattle.std.proofs.Common.{◌≡◌, map, pos}
use Rattle.std.specs.Prelude.{filter}
use Rattle.std.specs.List.{range_with_len}
use Rattle.pl_bench.specs.StatedWorld.{is_weekday}
use Rattle.pl_bench.proofs.sessions.weekdays.Given as goal

abbrev pub invariant-loop-past : goal.invariant-loop-past
invariant-loop-past l = l.days.items ≡ map pos (filter is_weekday (range_with_len 18262 l.past))
