use Rattle.pl_laws.proofs.Lows.{reaches-rise}
use Rattle.pl_laws.proofs.laws.reaches_rise.Goals as goal

pub returns : goal.returns
returns c = reaches-rise
