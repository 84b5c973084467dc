use Rattle.pl_bars.proofs.BarsMoved.{bars-moved}
use Rattle.pl_bars.proofs.laws.bars_in_any_order.Goals as goal

pub returns : goal.returns
returns c days assets are first records others m bars e = bars-moved days assets are.few first records others m bars e
