use Rattle.std.proofs.Common.{append_assoc}
use Rattle.pl_load.proofs.line.write_placed.Goals as goal

pub returns : goal.returns
returns g c =
    rw (← c.format-line.ensures.text, ← c.format-col.ensures.text) (simp append_assoc c.write_pieces.ensures)
