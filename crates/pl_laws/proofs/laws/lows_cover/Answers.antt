use Rattle.pl_laws.proofs.Lows.{lows-cover}
use Rattle.pl_laws.proofs.laws.lows_cover.Goals as goal

pub returns : goal.returns
returns c = lows-cover
