use Rattle.std.proofs.Common.{◌≡◌, ◌≤◌, ◌-◌, length, map, vec_len, vec_capacity}
use Rattle.std.specs.List.{range_with_len}
use Rattle.pl_runner.specs.Days.{bar_at}
use Rattle.pl_runner.proofs.news.fill_bars.Given as goal

abbrev pub invariant-loop-col : goal.invariant-loop-col
invariant-loop-col l =
    record {
      bars : l.bars.items ≡ map (bar_at l.world.bars.now (l.session - 1)) (range_with_len 0 l.col);
      places : length l.places ≡ length l.fn.places;
      few : vec_len l.bars ≤ l.col;
      room : length l.world.assets.now ≤ vec_capacity l.bars;
    }
