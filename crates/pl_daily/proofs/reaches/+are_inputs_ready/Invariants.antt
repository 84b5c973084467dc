use Rattle.std.proofs.Common.{length}
use Rattle.pl_daily.proofs.reaches.+are_inputs_ready.Given as goal

abbrev pub decreases-are_inputs_ready : goal.decreases-are_inputs_ready
decreases-are_inputs_ready l = length l.inputs.now
