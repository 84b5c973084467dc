use Rattle.pl_values.proofs.Texts.{texts-coded}
use Rattle.pl_explain.proofs.basis.parts_are_ready.Goals as goal

pub returns : goal.returns
returns c =
    let w = c.args.world.now in
    let parts = c.parts_make_a_world.ensures.sound in
    record {
      made = c.requires;
      days = parts.days.ascend;
      few = parts.days.few;
      assets = parts.assets;
      texts = texts-coded w.sessions.now w.assets.now w.labels.now w.bars.now w.adjustments.now w.numbers.now.rows parts.labels;
      checked = c.graph.ensures.checked;
    }
