use Rattle.pl_values.proofs.Texts.{texts-coded}
use Rattle.pl_table.proofs.asked.is_asked.Goals as goal

pub returns : goal.returns
returns c =
    let w = c.args.asked.now.world in
    let parts = c.parts_make_a_world.ensures in
    record {
      sound = parts.sound;
      world = parts.world;
      texts = texts-coded w.sessions.now w.assets.now w.labels.now w.bars.now w.adjustments.now w.numbers.now.rows parts.sound.labels;
      checked = c.graph.ensures.checked;
      plan = c.requires.plan;
    }
