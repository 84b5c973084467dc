use Rattle.pl_laws.proofs.Views.{still-stays}
use Rattle.pl_laws.proofs.laws.still_assets_stay.Goals as goal

pub returns : goal.returns
returns c w names a low u v later still t ok = still-stays w names a low u v later still t ok
