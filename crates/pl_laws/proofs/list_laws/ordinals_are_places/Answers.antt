use Rattle.pl_laws.proofs.Ordinals.{ordinals-places}
use Rattle.pl_laws.proofs.list_laws.ordinals_are_places.Goals as goal

pub returns : goal.returns
returns c = ordinals-places
