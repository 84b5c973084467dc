use Rattle.std.proofs.Common.{◌≡◌, ◌+◌, ◌*◌, ◌++◌, map}
use Rattle.std.specs.List.{range_with_len}
use Rattle.pl_bench.specs.Draws.{behind}
use Rattle.pl_bench.specs.StatedWorld.{bar, price}
use Rattle.pl_bench.proofs.bars.draw_asset.Given as goal

abbrev pub invariant-loop-session : goal.invariant-loop-session
invariant-loop-session l =
    record {
      rows : l.rows.items ≡ l.fn.rows.items ++ map (bar l.fn.draws l.col) (range_with_len 0 l.session);
      price : l.price ≡ price l.fn.draws l.session;
      draws : l.draws ≡ behind l.fn.draws (1 + 2 * l.session);
    }
