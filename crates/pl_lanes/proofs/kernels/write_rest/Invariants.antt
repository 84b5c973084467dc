use Rattle.pl_lanes.specs.Kernels.{given_at}
use Rattle.pl_lanes.specs.Written.{IsWritten}
use Rattle.pl_lanes.proofs.kernels.write_rest.Given as goal

abbrev pub invariant-loop-at : goal.invariant-loop-at
invariant-loop-at l = IsWritten l.out l.fn.out l.from l.at (given_at l.kernel l.a l.b)
