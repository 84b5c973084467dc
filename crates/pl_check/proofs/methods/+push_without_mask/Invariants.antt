use Rattle.std.proofs.Common.{length}
use Rattle.pl_check.proofs.methods.+push_without_mask.Given as goal

abbrev pub decreases-push_without_mask : goal.decreases-push_without_mask
decreases-push_without_mask l = length l.written.now
