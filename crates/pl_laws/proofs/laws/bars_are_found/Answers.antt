use Rattle.pl_spec.proofs.Finds as finds
use Rattle.pl_laws.proofs.laws.bars_are_found.Goals as goal

pub returns : goal.returns
returns c = finds.bars_are_found
