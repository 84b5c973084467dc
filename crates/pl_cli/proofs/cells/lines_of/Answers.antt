use Rattle.pl_terms.specs.Checked.{pipeline_of}
use Rattle.pl_cli.proofs.Explained.{lent-lines, lent-count}
use Rattle.pl_bench.proofs.Lines.{lent-world}
use Rattle.pl_cli.proofs.cells.lines_of.Goals as goal

pub returns-clause-exact : goal.returns-clause-exact
returns-clause-exact g c =
    let w = c.world-world.ensures in
    let l = c.args.loaded.now in
    lent-lines c.world-world.result l.world (pipeline_of l.checked) l.cell.term.0 l.cell.col l.cell.session
    (lent-world c.world-world.result l.world w.sessions w.assets w.labels w.bars w.adjustments w.numbers) w.assets c.explain_cell.result c.explain_cell.ensures.exact

pub returns-clause-long : goal.returns-clause-long
returns-clause-long g c =
    let w = c.world-world.ensures in
    let l = c.args.loaded.now in
    lent-count c.world-world.result l.world (pipeline_of l.checked) l.cell.term.0 l.cell.col l.cell.session
    (lent-world c.world-world.result l.world w.sessions w.assets w.labels w.bars w.adjustments w.numbers) w.assets c.explain_cell.result c.explain_cell.ensures.long
