use Rattle.pl_table.proofs.Tiles.{IsBegun}
use Rattle.pl_table.proofs.tile.fill_place.Given as goal

abbrev pub invariant-loop-column : goal.invariant-loop-column
invariant-loop-column l = IsBegun l.outcome l.first l.place l.column l.fn.tile l.tile
