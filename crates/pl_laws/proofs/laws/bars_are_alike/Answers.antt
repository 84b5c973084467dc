use Rattle.pl_spec.proofs.Steps.{bars-alike}
use Rattle.pl_laws.proofs.laws.bars_are_alike.Goals as goal

pub returns : goal.returns
returns c = bars-alike
