use Rattle.std.proofs.Common.{◌≡◌, length}
use Rattle.pl_table.specs.Tiles.{HasRows}
use Rattle.pl_table.proofs.tile.fill.Given as goal

abbrev pub invariant-loop-place : goal.invariant-loop-place
invariant-loop-place l = record {
  size : length l.tile ≡ length l.fn.tile;
  rows : HasRows l.outcome l.first l.place l.tile;
}
