use Rattle.std.proofs.Common.{append_assoc}
use Rattle.pl_load.proofs.line.write_data.Goals as goal

pub returns : goal.returns
returns g c = rw (← c.format.ensures.text) (simp append_assoc c.write_pieces.ensures)
