use Rattle.pl_laws.proofs.Views.{quiet-still}
use Rattle.pl_laws.proofs.laws.quiet_assets_are_still.Goals as goal

pub returns : goal.returns
returns c w ok a u v x y = quiet-still w ok a u v x y
