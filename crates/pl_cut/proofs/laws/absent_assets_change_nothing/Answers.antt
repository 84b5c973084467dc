use Rattle.pl_cut.proofs.Absent.{absent_assets_change_nothing}
use Rattle.pl_cut.proofs.laws.absent_assets_change_nothing.Goals as goal

pub returns : goal.returns
returns c = absent_assets_change_nothing
