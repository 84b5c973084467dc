use Rattle.std.proofs.Common.{length}
use Rattle.pl_planner.proofs.columns.+cone_reads.Given as goal

abbrev pub decreases-cone_reads : goal.decreases-cone_reads
decreases-cone_reads l = length l.cone.now
