use Rattle.pl_explain.proofs.Used.{found-place, found-nowhere}
use Rattle.pl_explain.proofs.judge.col_of.Goals as goal

pub returns-clause-some : goal.returns-clause-some
returns-clause-some c = found-place c.args.world.now c.args.sid c.col_of.result c.col_of.ensures.exact

pub returns-clause-none : goal.returns-clause-none
returns-clause-none c = found-nowhere c.args.world.now c.args.sid c.col_of.result c.col_of.ensures.exact
