use Rattle.std.proofs.Common.{refl}
use Rattle.pl_cli.proofs.parts.lent.Goals as goal

pub returns-clause-made : goal.returns-clause-made
returns-clause-made c = c.parts_make_a_world.ensures.parts

pub returns-clause-world : goal.returns-clause-world
returns-clause-world c =
    let w = c.world-world.ensures in
    rw (w.sessions, w.assets, w.labels, w.bars, w.adjustments, w.numbers) refl
