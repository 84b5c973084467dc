use Rattle.std.proofs.Common.{◌≡◌, ℕ, ◌<◌, ◌+◌, false}
use Rattle.pl_cross.specs.Arrays.{sid_in}
use Rattle.pl_table.specs.Outcomes.{pipeline_in, sids_in, world_in}
use Rattle.pl_table.specs.Rows.{has_row}
use Rattle.pl_table.specs.Tiles.{IsStrip}
use Rattle.pl_table.proofs.Tiles.{places_of, width_of, marked}
use Rattle.pl_table.proofs.tile.mark_rows.Given as goal

abbrev pub invariant-loop-j : goal.invariant-loop-j
invariant-loop-j l = record {
  marks : IsStrip (marked l.outcome l.first l.place) (places_of l.outcome) (width_of l.outcome) l.j l.place 0 l.fn.tile l.tile;
  none : l.some ≡ false → (j : ℕ) → j < l.j → has_row (world_in l.outcome) (pipeline_in l.outcome) (l.first + j) (sid_in (sids_in l.outcome) l.place) ≡ false;
}
