use Rattle.std.proofs.Common.{[], ◌∷◌, codes}
use Rattle.pl_outside.proofs.Pieces.{writes-over}
use Rattle.pl_table.proofs.Pieces.{numbers-are}
use Rattle.pl_table.proofs.numbers.write_numbers.Goals as goal

pub returns : goal.returns
returns g c =
    rw (← c.format.ensures.text, ← c.format-2.ensures.text, ← c.format-3.ensures.text, ← c.format-4.ensures.text)
    (writes-over (numbers-are (codes "rows=") c.format.result.now (codes " cells=") c.format-2.result.now (codes " peak=") c.format-3.result.now
    (codes " bound=") c.format-4.result.now (10 ∷ [])) c.write_pieces.ensures)
