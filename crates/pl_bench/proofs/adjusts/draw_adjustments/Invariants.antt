use Rattle.std.proofs.Common.{◌≡◌, ◌*◌, map}
use Rattle.std.specs.List.{range_with_len}
use Rattle.pl_bench.specs.Draws.{behind}
use Rattle.pl_bench.specs.StatedWorld.{split, merger, dividend}
use Rattle.pl_bench.proofs.adjusts.draw_adjustments.Given as goal

abbrev pub invariant-loop-turn : goal.invariant-loop-turn
invariant-loop-turn l =
    record {
      splits : l.splits.items ≡ map (split l.fn.draws) (range_with_len 0 l.turn);
      mergers : l.mergers.items ≡ map (merger l.fn.draws) (range_with_len 0 l.turn);
      dividends : l.dividends.items ≡ map (dividend l.fn.draws) (range_with_len 0 l.turn);
      draws : l.draws ≡ behind l.fn.draws (7 * l.turn);
    }
