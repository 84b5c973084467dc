use Rattle.pl_bars.proofs.BarWorlds.{cells_raw}
use Rattle.pl_bars.proofs.laws.cells_are_raw.Goals as goal

pub returns : goal.returns
returns c = cells_raw
