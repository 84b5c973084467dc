use Rattle.std.proofs.Common.{◌≡◌, ◌≤◌, length, vec_len, vec_capacity}
use Rattle.std.specs.Prelude.{filter}
use Rattle.std.specs.List.{range_with_len}
use Rattle.pl_world.specs.Worlds.{world_of}
use Rattle.pl_runner.specs.Chunks.{lives_within}
use Rattle.pl_runner.proofs.columns.put_living.Given as goal

abbrev pub invariant-loop-col : goal.invariant-loop-col
invariant-loop-col l =
    record {
      cols : l.cols.items ≡ filter (lives_within (world_of l.asked.world) l.low l.to) (range_with_len 0 l.col);
      few : vec_len l.cols ≤ l.col;
      room : length l.asked.world.assets.now ≤ vec_capacity l.cols;
    }
