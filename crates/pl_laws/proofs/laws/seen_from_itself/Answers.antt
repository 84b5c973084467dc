use Rattle.pl_laws.proofs.Views.{from-itself}
use Rattle.pl_laws.proofs.laws.seen_from_itself.Goals as goal

pub returns : goal.returns
returns c w names t = from-itself w names t
