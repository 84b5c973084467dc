use Rattle.std.proofs.Common.{◌≡◌, ◌+◌, get_or, pos}
use Rattle.pl_table.specs.Tiles.{IsStrip, tile_at}
use Rattle.pl_table.proofs.Tiles.{places_of, width_of}
use Rattle.pl_table.proofs.tile.copy_cells.Given as goal

abbrev pub invariant-loop-j : goal.invariant-loop-j
invariant-loop-j l = record {
  strip : IsStrip (λ j. get_or l.cells j (pos 0)) (places_of l.outcome) (width_of l.outcome) l.j l.place (l.column + 1) l.fn.tile l.tile;
  here : l.at ≡ tile_at (places_of l.outcome) (width_of l.outcome) l.j l.place (l.column + 1);
}
