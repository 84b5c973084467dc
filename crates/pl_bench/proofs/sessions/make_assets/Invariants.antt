use Rattle.std.proofs.Common.{◌≡◌, map}
use Rattle.std.specs.List.{range_with_len}
use Rattle.pl_bench.specs.StatedWorld.{asset}
use Rattle.pl_bench.proofs.sessions.make_assets.Given as goal

abbrev pub invariant-loop-col : goal.invariant-loop-col
invariant-loop-col l = l.rows.items ≡ map asset (range_with_len 0 l.col)
