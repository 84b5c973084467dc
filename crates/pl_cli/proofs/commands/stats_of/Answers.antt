use Rattle.pl_cli.specs.Commands.{loaded_present}
use Rattle.pl_cli.proofs.Stats.{told-when}
use Rattle.pl_cli.proofs.commands.stats_of.Goals as goal

pub returns : goal.returns
returns c =
    let l = c.args.loaded.now in
    let r = c.args.report.now in
    told-when c.args.asked r.rows r.cells r.peak c.bound.result l.plan.bound r.applied c.present_of.result (loaded_present l) c.if-not-asked.false c.bound.ensures.value c.present_of.ensures
