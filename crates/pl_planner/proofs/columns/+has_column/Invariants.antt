use Rattle.std.proofs.Common.{length}
use Rattle.pl_planner.proofs.columns.+has_column.Given as goal

abbrev pub decreases-has_column : goal.decreases-has_column
decreases-has_column l = length l.inputs.now
