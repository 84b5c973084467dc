use Rattle.pl_world.proofs.Made.{parts_make_a_world}
use Rattle.pl_world.proofs.laws.parts_make_a_world.Goals as goal

pub returns : goal.returns
returns c =
    parts_make_a_world c.args.world.now
    record {
      made = c.requires;
      days = c.len.ensures.days;
      assets = c.assets_and_labels.ensures.assets;
      labels = c.assets_and_labels.ensures.labels;
      bars = c.len-2.ensures.bars;
      in_order = c.len-3.ensures.in_order;
      puts = c.len-3.ensures.cells;
      numbers = c.len-4.ensures.numbers;
    }
