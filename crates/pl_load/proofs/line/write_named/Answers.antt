use Rattle.std.proofs.Common.{append_assoc}
use Rattle.pl_load.proofs.line.write_named.Goals as goal

pub returns : goal.returns
returns g c = simp append_assoc c.write_pieces.ensures
