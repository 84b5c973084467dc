use Rattle.pl_laws.proofs.Winsorized.{winsorized-between}
use Rattle.pl_laws.proofs.list_laws.winsorized_are_between.Goals as goal

pub returns : goal.returns
returns c = winsorized-between
