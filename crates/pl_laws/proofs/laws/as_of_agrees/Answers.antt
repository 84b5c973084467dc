use Rattle.pl_laws.proofs.AsOf.{is-world, agrees}
use Rattle.pl_laws.proofs.laws.as_of_agrees.Goals as goal

pub returns : goal.returns
returns c w d day ok at_d = (is-world w d day ok, agrees w d day ok at_d)
