use Rattle.pl_cut.proofs.Cuts.{cuts_agree}
use Rattle.pl_cut.proofs.laws.cuts_agree.Goals as goal

pub returns : goal.returns
returns c = cuts_agree
