use Rattle.std.proofs.Common.{◌≡◌, ◌≤◌, ◌<◌, ◌+◌, ◌^◌}
use Rattle.pl_pipeline.specs.Elementary.{log_bits}
use Rattle.pl_elementary.proofs.logarithm.log_bits.Given as goal

abbrev pub invariant-bits : goal.invariant-bits
invariant-bits l = record {
  all : l.bits + log_bits l.left l.s ≡ log_bits 60 l.start;
  few : l.left ≤ 60;
  fits : l.s < 2 ^ 64;
}

abbrev pub decreases-bits : goal.decreases-bits
decreases-bits l = l.left
