use Rattle.pl_fixed.proofs.SidLemmas.{as_sid_in}
use Rattle.pl_fixed.proofs.sid.read_sid.Goals as goal

pub returns-clause-exact : goal.returns-clause-exact
returns-clause-exact c = as_sid_in c.args.b.now c.sid_of.result c.sid_of.ensures.found c.sid_of.ensures.only
