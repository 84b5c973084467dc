use Rattle.pl_factors.proofs.Latest.{latest_are, first_are}
use Rattle.pl_factors.proofs.lanes.fill_first.Goals as goal

pub returns-clause-latest : goal.returns-clause-latest
returns-clause-latest c b d = latest_are c.args.size _ c.args.a.now c.requires.cells c.requires.some c.requires.long _ c.copy_from_slice.ensures.after b d

pub returns-clause-first : goal.returns-clause-first
returns-clause-first c b d = first_are c.args.size _ c.args.a.now c.requires.cells c.requires.some c.requires.long _ c.copy_from_slice.ensures.after b d
