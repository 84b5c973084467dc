use Rattle.std.proofs.Common.{◌≡◌, length}
use Rattle.pl_adjust.specs.Columns.{AreStarts}
use Rattle.pl_adjust.proofs.columns.starts_of.Given as goal

abbrev pub invariant-loop-col : goal.invariant-loop-col
invariant-loop-col l = record { long : length l.starts.items ≡ l.col; starts : AreStarts l.cols l.starts.items }
