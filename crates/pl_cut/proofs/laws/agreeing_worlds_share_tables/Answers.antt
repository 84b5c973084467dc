use Rattle.pl_cut.proofs.Tables.{share_tables}
use Rattle.pl_cut.proofs.laws.agreeing_worlds_share_tables.Goals as goal

pub returns : goal.returns
returns c = share_tables
