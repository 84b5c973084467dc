use Rattle.pl_laws.proofs.Alike.{alike}
use Rattle.pl_laws.proofs.laws.agreeing_worlds_are_alike.Goals as goal

pub returns : goal.returns
returns c = alike
