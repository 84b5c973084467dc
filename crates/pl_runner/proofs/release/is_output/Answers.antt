use Rattle.std.proofs.Common.{◌∙◌, sym}
use Rattle.pl_terms.specs.Checked.{pipeline_of}
use Rattle.pl_runner.proofs.Released.{not-output}
use Rattle.pl_runner.proofs.release.is_output.Goals as goal

pub returns-else-is_used : goal.returns-else-is_used
returns-else-is_used c =
    c.if-is_used.false ∙ not-output c.args.asked.now.world.sessions.now (pipeline_of c.args.asked.now.checked.now) c.args.asked.now.plan.now c.requires.asked.checked c.requires.asked.plan c.args.term.0 (sym c.is_used.ensures ∙ c.if-is_used.false)
