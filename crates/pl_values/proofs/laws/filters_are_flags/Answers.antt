use Rattle.pl_values.proofs.Flags.{filter-cell}
use Rattle.pl_values.proofs.laws.filters_are_flags.Goals as goal

pub returns : goal.returns
returns c = filter-cell
