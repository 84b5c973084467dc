use Rattle.std.proofs.Common.{arith}
use Rattle.std.proofs.lemmas.Simd.{length-put_chunk}
use Rattle.pl_lanes.proofs.WrittenLemmas.{written-begins, written-eight}
use Rattle.pl_lanes.proofs.kernels.write_blocks.Goals as goal

pub eights-init : goal.eights-init
eights-init c = record { within = omega arith; written = written-begins _ _ _ }

pub eights-preserved : goal.eights-preserved
eights-preserved c = record {
  within = rw (c.stored.ensures, length-put_chunk) (omega arith);
  written = rw c.stored.ensures (written-eight c.eights.out _ 0 c.eights.at _ _ c.eights.invariant.written (omega arith) (omega arith) c.lanes.ensures);
}
