use Rattle.std.proofs.Common.{◌≡◌, max, drop, map}
use Rattle.pl_lanes.specs.Heights.{peak, rank}
use Rattle.pl_lanes.proofs.extrema.best_plainly.Given as goal

-- what has been seen and what is left are the whole
abbrev pub invariant-loop-cell : goal.invariant-loop-cell
invariant-loop-cell l = max l.best (peak (map (rank l.low) (drop l.cell-index l.x))) ≡ peak (map (rank l.low) l.x)
