use Rattle.pl_bench.proofs.WorldMade.{world-is, made-for}
use Rattle.pl_bench.proofs.world.make_world.Goals as goal

pub returns-clause-stated : goal.returns-clause-stated
returns-clause-stated c = record {
  sessions = c.in_ok-sessions.ensures;
  assets = c.in_ok-assets.ensures;
  labels = c.in_ok-drawn.ensures.labels;
  bars = c.in_ok-drawn.ensures.bars;
  adjustments = c.in_ok-drawn.ensures.adjustments;
  numbers = c.none-numbers.ensures.rows;
}

pub returns-clause-world : goal.returns-clause-world
returns-clause-world c = world-is c.args.number _ (returns-clause-stated c)

pub returns-clause-made : goal.returns-clause-made
returns-clause-made c = made-for c.args.number _ (returns-clause-stated c) c.in_ok-drawn.ensures.cols
