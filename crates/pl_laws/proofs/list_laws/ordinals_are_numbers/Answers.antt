use Rattle.pl_laws.proofs.Ordinals.{ordinals-numbers}
use Rattle.pl_laws.proofs.list_laws.ordinals_are_numbers.Goals as goal

pub returns : goal.returns
returns c = ordinals-numbers
