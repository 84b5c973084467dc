use Rattle.std.proofs.Common.{◌≡◌, ◌*◌}
use Rattle.std.specs.Prelude.{flat_map}
use Rattle.std.specs.List.{range_with_len}
use Rattle.pl_bench.specs.Draws.{behind}
use Rattle.pl_bench.specs.StatedWorld.{bars_of_asset}
use Rattle.pl_bench.proofs.bars.draw_bars.Given as goal

abbrev pub invariant-loop-col : goal.invariant-loop-col
invariant-loop-col l =
    record {
      rows : l.rows.items ≡ flat_map (λ col. bars_of_asset (behind l.fn.draws (1201 * col)) col) (range_with_len 0 l.col);
      draws : l.draws ≡ behind l.fn.draws (1201 * l.col);
    }
