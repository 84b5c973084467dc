use Rattle.std.proofs.Common.{◌≡◌, map}
use Rattle.std.specs.List.{range_with_len}
use Rattle.pl_assets.specs.Labels.{table_of}
use Rattle.pl_bench.specs.Draws.{behind}
use Rattle.pl_bench.specs.StatedWorld.{sector}
use Rattle.pl_bench.proofs.sectors.draw_sectors.Given as goal

abbrev pub invariant-loop-col : goal.invariant-loop-col
invariant-loop-col l =
    record {
      labels : l.labels ≡ table_of (map (sector l.fn.draws) (range_with_len 0 l.col));
      draws : l.draws ≡ behind l.fn.draws l.col;
    }
