use Rattle.std.proofs.Common.{◌≤◌, ◌-◌, length}
use Rattle.pl_lanes.specs.Kernels.{given_at}
use Rattle.pl_lanes.specs.Written.{IsWritten}
use Rattle.pl_lanes.proofs.kernels.write_blocks.Given as goal

abbrev pub invariant-eights : goal.invariant-eights
invariant-eights l = record {
  within : l.at ≤ length l.out;
  written : IsWritten l.out l.fn.out 0 l.at (given_at l.kernel l.a l.b);
}

abbrev pub decreases-eights : goal.decreases-eights
decreases-eights l = length l.out - l.at
