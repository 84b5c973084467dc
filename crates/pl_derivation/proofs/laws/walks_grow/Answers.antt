use Rattle.pl_derivation.proofs.Growing.{grow}
use Rattle.pl_derivation.proofs.laws.walks_grow.Goals as goal

pub returns : goal.returns
returns c w p depth done f = grow w p depth done f
