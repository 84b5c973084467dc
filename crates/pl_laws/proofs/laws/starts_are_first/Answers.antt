use Rattle.pl_laws.proofs.Lows.{starts-first}
use Rattle.pl_laws.proofs.laws.starts_are_first.Goals as goal

pub returns : goal.returns
returns c = starts-first
