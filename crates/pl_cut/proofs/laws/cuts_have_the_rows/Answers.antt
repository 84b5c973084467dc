use Rattle.pl_cut.proofs.Cuts.{cuts_have_the_rows}
use Rattle.pl_cut.proofs.laws.cuts_have_the_rows.Goals as goal

pub returns : goal.returns
returns c = cuts_have_the_rows
