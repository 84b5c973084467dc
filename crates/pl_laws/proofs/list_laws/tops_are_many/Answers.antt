use Rattle.pl_laws.proofs.Tops.{tops-many}
use Rattle.pl_laws.proofs.list_laws.tops_are_many.Goals as goal

pub returns : goal.returns
returns c = tops-many
