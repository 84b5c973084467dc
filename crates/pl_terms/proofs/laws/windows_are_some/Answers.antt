use Rattle.pl_terms.proofs.Windowed.{windowed}
use Rattle.pl_terms.proofs.laws.windows_are_some.Goals as goal

pub returns : goal.returns
returns c = windowed
