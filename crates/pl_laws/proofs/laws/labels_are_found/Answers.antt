use Rattle.pl_spec.proofs.Finds as finds
use Rattle.pl_laws.proofs.laws.labels_are_found.Goals as goal

pub returns : goal.returns
returns c = finds.labels_are_found
