use Rattle.std.proofs.Common.{length}
use Rattle.pl_windows.proofs.line.+write_further.Given as goal

-- one cell less each time
abbrev pub decreases-write_further : goal.decreases-write_further
decreases-write_further g l = length l.cells.now
