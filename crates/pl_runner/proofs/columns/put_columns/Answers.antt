use Rattle.std.proofs.Common.{◌∙◌, sym, arith}
use Rattle.pl_world.specs.Worlds.{world_of}
use Rattle.pl_terms.specs.Checked.{pipeline_of}
use Rattle.pl_runner.proofs.Assets.{columns-are}
use Rattle.pl_runner.proofs.columns.put_columns.Goals as goal

pub put_living-requires-clause-to : goal.put_living-requires-clause-to
put_living-requires-clause-to c = omega (arith, c.requires.asked.plan.within, c.requires.to)

pub returns-clause-cols : goal.returns-clause-cols
returns-clause-cols c =
    c.put_living.ensures.cols
    ∙ sym (columns-are c.args.asked.now.world.sessions.now (world_of c.args.asked.now.world) (pipeline_of c.args.asked.now.checked.now) c.args.asked.now.plan.now c.args.chunk c.requires.asked.plan c.least_low-low.result c.least_low-low.ensures.least)
